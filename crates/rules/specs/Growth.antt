-- Condition 3 of the tender: what it is to grow a section that reads right. "Descriptors with tags the box doesn't know put into
-- lists the section has, bytes added at the end of the revision descriptor, reserved bits set anyhow, with lengths, counts and CRC put
-- right", and no section passes 1,024 bytes. The relation is wider than the tender in three ways, and what is proved of it holds of the
-- tender's growth: the bytes behind the revision's three may be any, so also fewer; a descriptor that the box doesn't know may get any other
-- body (003 reserves bits in some); and a length or count may pass its field. One above 255 is no byte, so no section that can be sent has
-- such a one; here numbers need not be bytes.
use Rattle.std.specs.Prelude.{ℕ, ◌/◌, ◌%◌, ◌≤◌, ◌≡◌, true, List, [], ◌∷◌, length, take, drop}
use Rattle.std.specs.Prelude.{Option, Some, None}
use Rattle.rules.specs.Bytes.{byte}
use Rattle.rules.specs.Crc.{crc_of}
use Rattle.rules.specs.Descriptors.{Descriptor}
use Rattle.rules.specs.Form.{form}
use Rattle.rules.specs.Section.{is_number, revision_tag, Content, right, read_section, fitting, without_crc}
use Rattle.rules.specs.Parts.{Piece, Parts, bytes_of, Shaped}
use Rattle.rules.specs.Refusals.{OrRefused, wrong}
use Rattle.rules.specs.declared.Part.{Part}

-- ---- "descriptors .. put into lists the section has"

-- anywhere in a list: each one that was there is kept in its way, and each that was added may be
pub data Fuller (Kept : Descriptor → Descriptor → Type 0) (May : Descriptor → Type 0) : (before after : List Descriptor) → Type 0 where
  empty : Fuller Kept May [] []
  kept : {ds es : List Descriptor} {d e : Descriptor} → Kept d e → Fuller Kept May ds es → Fuller Kept May (d ∷ ds) (e ∷ es)
  added : {ds es : List Descriptor} (d : Descriptor) → May d → Fuller Kept May ds es → Fuller Kept May ds (d ∷ es)

-- into a record's list: of any tag. One that was there keeps its tag; whatever bits its body reserves are set anyhow, and since the box
-- knows no tag here its body may be any
abbrev pub SameTag : (d e : Descriptor) → Type 0
SameTag d e = e.tag ≡ d.tag

abbrev pub FullerList : (before after : List Descriptor) → Type 0
FullerList = Fuller SameTag (λ d. Unit {0})

-- bodies of 0x93 whose first three bytes say the same
pub record SameRevision (x y : List ℕ) : Type 0 where
  pub long : 3 ≤ length x
  pub longer : 3 ≤ length y
  pub version : byte 0 y % 32 ≡ byte 0 x % 32
  pub number : byte 1 y ≡ byte 1 x
  pub last : byte 2 y ≡ byte 2 x

-- "bytes added at the end of the revision descriptor, reserved bits set anyhow": version, number and last stay. The bytes behind them are
-- unknown to the box and may be any
pub record GrownRevision (d e : Descriptor) : Type 0 where
  pub was : d.tag ≡ revision_tag
  pub is : e.tag ≡ revision_tag
  pub same : SameRevision d.body e.body

-- into the closing list: of any tag but the revision's. One that was there stays; or, of a tag that the box doesn't know, keeps its tag
-- with any body, as above; or is the revision descriptor, grown
abbrev pub Unknown : Descriptor → Type 0
Unknown d = d.tag ≡ revision_tag → ⊥

pub data GrownDescriptor (d e : Descriptor) : Type 0 where
  stays : e ≡ d → GrownDescriptor d e
  other : Unknown d → SameTag d e → GrownDescriptor d e
  revised : GrownRevision d e → GrownDescriptor d e

abbrev pub GrownClosing : (before after : List Descriptor) → Type 0
GrownClosing = Fuller GrownDescriptor Unknown

-- ---- the parts of a section, grown

pub data FullerPieces : (before after : List Piece) → Type 0 where
  end : FullerPieces [] []
  next : {ps qs : List Piece} {p q : Piece} → q.own ≡ p.own → FullerList p.list q.list → FullerPieces ps qs
      → FullerPieces (p ∷ ps) (q ∷ qs)

-- byte 1 keeps its zero bits: the reserved ones are set anyhow, and L is put right
pub record GrownParts (p q : Parts) : Type 0 where
  pub number : q.number ≡ p.number
  pub zeros : q.flags / 64 ≡ p.flags / 64
  pub header : q.header ≡ p.header
  pub head : q.head ≡ p.head
  pub pieces : FullerPieces p.pieces q.pieces
  pub closing : GrownClosing p.closing q.closing

-- a section that reads right, grown: L is right and at most 1,021 (check 3), and so is the CRC (check 5)
pub record Grown (s g : List ℕ) : Type 0 where
  pub content : Content
  pub reads : read_section s ≡ right content
  pub before : Parts
  pub after : Parts
  pub was : without_crc s ≡ bytes_of (form content.table) before
  pub is : without_crc g ≡ bytes_of (form content.table) after
  pub shaped : Shaped (form content.table) before
  pub reshaped : Shaped (form content.table) after
  pub grows : GrownParts before after
  pub fits : fitting g ≡ true
  pub crc : crc_of g ≡ 0

-- "Take a run of sections .., and let some that read right be grown"
pub data GrownRun : (before after : List (List ℕ)) → Type 0 where
  end : GrownRun [] []
  same : {ss gs : List (List ℕ)} (s : List ℕ) → GrownRun ss gs → GrownRun (s ∷ ss) (s ∷ gs)
  grown : {ss gs : List (List ℕ)} {s g : List ℕ} → Grown s g → GrownRun ss gs → GrownRun (s ∷ ss) (g ∷ gs)

-- ---- the descriptor question under growth: "it covers only tags that growth didn't add, and for 0x93 the first three body bytes without
-- their reserved bits"

-- what the question tells: the refusal, that there is none, or the body
pub data Told : Type 0 where
  refused : ℕ → Told
  none : Told
  body : List ℕ → Told

unfoldable pub told : List ℕ → OrRefused (Option Part) → Told
told s (wrong n) = refused n
told s (right None) = none
told s (right (Some p)) = body (take p.size (drop p.start s))

-- growth put no descriptor of the tag into the closing list, and changed none
abbrev pub Untouched : (tag : ℕ) {ds es : List Descriptor} → GrownClosing ds es → Type 0
Untouched tag empty = Unit {0}
Untouched tag (kept (stays e) g) = Untouched tag g
Untouched tag (kept {d = d} (other n t) g) = (d.tag ≡ tag → ⊥) × Untouched tag g
Untouched tag (kept (revised r) g) = Untouched tag g
Untouched tag (added d n g) = (d.tag ≡ tag → ⊥) × Untouched tag g

-- ---- "A section with a protocol version other than 0 is refused as that, once it has passed the earlier checks": 3, 4 and 5

pub record OtherProtocol (section : List ℕ) : Type 0 where
  pub three : fitting section ≡ true
  pub four : is_number (byte 0 section) ≡ true
  pub five : crc_of section ≡ 0
  pub six : byte 3 section % 32 ≡ 0 → ⊥
