-- A section and its parts, both ways and over every form: what parts say is read from their bytes, what was read from them is what they
-- say, and every section that reads right has such parts.
use Prim.Native.Nat.{ℕ, zero, suc, ◌+◌, ◌-◌, ◌/◌, ◌≤◌, ◌<◌}
use native.Mathlib.Omega.{arith}
use mathlib.Core.Path.{◌≡◌, refl, sym, ap, subst, ◌∙◌}
use mathlib.Core.Bool.{true, ◌&&◌}
use mathlib.Core.List.{List, [], ◌∷◌, ◌++◌}
use lib.ListN.{length, take, length-append, take-append-drop, get_or-append}
use lib.Dec.{eqb}
use borrow.Author.Tests.{eqb-true, eq-eqb}
use Rattle.rules.specs.Bytes.{Got, got, and_then, giving, byte, from}
use Rattle.rules.specs.{Descriptors.Descriptor, Descriptors.closing, Descriptors.bodies, Form.Front, Form.Form, Form.form}
use Rattle.rules.specs.{InParts.ReadFrom, InParts.PartsRight, InParts.content_in, declared.Table.Table, declared.Revision.Revision}
use Rattle.rules.specs.Layout.{extent, taken, Numbered, records}
use Rattle.rules.specs.Section.{header_of, Headed, header_by, header, Structure, in_front, structure, revision_tag, Content, content_of, content}
use Rattle.rules.specs.Parts.{Piece, Parts, encoded, area, Own, Sized, said_front, laid_out, bytes_of, Shaped, said, Fair}
use Rattle.rules.proofs.Taken.{both_left, both_right, then-got, giving-got, taken-got, own-whole, own-got, own-so}
use Rattle.rules.proofs.Right.{formal, header-got, header-so, made, read-from, read_back}
use Rattle.rules.proofs.Encoded.{closing-encoded, closing-split, records-said, records-back, records-split}

-- ---- the header

-- what stands behind it
abbrev pub behind_header : Form → Parts → List ℕ
behind_header f p = p.head ++ (area (laid_out f p).described p.pieces ++ encoded p.closing)

-- byte 0 to 2, and the form's part
header-own : (f : Form) (a b c : ℕ) (h : List ℕ) → Own f.header h → Own (header_of f) (a ∷ b ∷ c ∷ h)
unfolding header_of from
header-own f a b c h n = let e : 3 + f.header.size ≡ suc (suc (suc f.header.size)) = omega arith in rw e (omega (arith, n))

byte-behind : (a b c : ℕ) (l : List ℕ) (m : ℕ) → 3 ≤ m → byte m (a ∷ b ∷ c ∷ l) ≡ byte (m - 3) l
unfolding byte
byte-behind a b c l zero h = absurd (omega arith)
byte-behind a b c l (suc zero) h = absurd (omega arith)
byte-behind a b c l (suc (suc zero)) h = absurd (omega arith)
byte-behind a b c l (suc (suc (suc i))) h = let e : suc (suc (suc i)) - 3 ≡ i = omega arith in rw e refl

-- medium and subtype stand in the form's part
medium-byte : (t : Table) (a b c : ℕ) (h rest : List ℕ) → Own (form t).header h
    → byte (form t).medium (a ∷ b ∷ c ∷ (h ++ rest)) ≡ byte ((form t).medium - 3) h
unfolding byte
medium-byte t a b c h rest n =
    let k = formal t in
    byte-behind a b c (h ++ rest) (form t).medium k.low ∙ get_or-append h rest 0 ((form t).medium - 3) (omega (arith, n, k.low, k.high))

module _ (t : Table) (p : Parts) (s : Shaped (form t) p) where
  -- what was got of their header
  record HeaderSaid (h : Headed) (rest : List ℕ) : Type 0 where
    number : p.number ≡ (form t).number
    subtype : byte ((form t).medium - 3) p.header ≡ (form t).subtype
    zeros : p.flags / 64 ≡ 0
    header_zeros : (form t).header.zeros p.header ≡ true
    limits : (form t).limits ((form t).header.look p.header) ≡ true
    is : h.front ≡ (form t).header.look p.header
    left : rest ≡ behind_header (form t) p

  header-said : (x : Front) (rest : List ℕ) → header (bytes_of (form t) p) ≡ got (record { table = t; front = x }) rest
      → HeaderSaid (record { table = t; front = x }) rest
  unfolding bytes_of header_of byte from
  header-said x rest e =
      let h = header-got _ _ rest e in
      let o =
      own-got (header_of (form t)) (form t).limits (p.number ∷ p.flags ∷ p.low ∷ p.header) (header-own (form t) _ _ _ _ s.header)
      (behind_header (form t) p) x rest h.block in
      record {
        number = h.number;
        subtype = sym (medium-byte t _ _ _ p.header (behind_header (form t) p) s.header) ∙ h.subtype;
        zeros = eqb-true (p.flags / 64) 0 (both_left _ ((form t).header.zeros p.header) o.0);
        header_zeros = both_right (eqb (p.flags / 64) 0) _ o.0;
        limits = o.1;
        is = o.2;
        left = o.3;
      }

  header-back : {r : Revision} → PartsRight t p r
      → header (bytes_of (form t) p) ≡ got (record { table = t; front = (form t).header.look p.header }) (behind_header (form t) p)
  unfolding bytes_of header_by header_of giving byte from
  header-back k =
      let n = header-own (form t) p.number p.flags p.low _ s.header in
      let long : (form t).medium < length (bytes_of (form t) p) =
      omega (arith, (formal t).high, s.header, length-append p.header (behind_header (form t) p)) in
      let z : (eqb (p.flags / 64) 0 && (form t).header.zeros p.header) ≡ true = rw (eq-eqb (p.flags / 64) 0 k.zeros) k.header_zeros in
      header-so _ t k.number long (medium-byte t _ _ _ p.header (behind_header (form t) p) s.header ∙ k.subtype)
      ∙ ap (giving (λ x. record { table = t; front = x }))
      (own-so (header_of (form t)) (form t).limits (p.number ∷ p.flags ∷ p.low ∷ p.header) n (behind_header (form t) p) z k.limits)

-- ---- the structure

module _ (f : Form) (p : Parts) (s : Shaped f p) where
  -- the records behind what stands in front of them, and the area that the parts say
  abbrev rows_of : Front → List ℕ → Got Structure
  rows_of y bs = giving (λ rs. record { front = y; lists = f.says rs }) (records (f.layout y) y.count y.first bs)

  abbrev tail : List ℕ
  tail = area (laid_out f p).described p.pieces ++ encoded p.closing

  -- there are as many as the parts have
  rows_are : rows_of (said_front f p) tail ≡ giving (λ rs. record { front = said_front f p; lists = f.says rs })
      (records (laid_out f p) (length p.pieces) (said_front f p).first tail)
  rows_are =
      ap (λ (n : ℕ). giving (λ rs. record { front = said_front f p; lists = f.says rs }) (records (laid_out f p) n (said_front f p).first tail))
      (sym s.count)

  structure-said : (x : Structure) (rest : List ℕ) → structure f (f.header.look p.header) (behind_header f p) ≡ got x rest
      → (f.head.zeros p.head ≡ true) × (rest ≡ encoded p.closing) × (x ≡ said f p) × Fair f p
  unfolding structure in_front said
  structure-said x rest e =
      let t = then-got _ _ _ _ e in let g = giving-got _ _ _ _ t.one in
      let o = own-got f.head (λ h. true) p.head s.head _ g.0 t.behind g.1 in
      let y : t.value ≡ said_front f p = g.2 ∙ ap (f.joined (f.header.look p.header)) o.2 in
      let w = giving-got _ _ _ _ (sym rows_are ∙ ap (λ (z : Front). rows_of z tail) (sym y) ∙ ap (rows_of t.value) (sym o.3) ∙ t.more) in
      let r = records-said (laid_out f p) p.pieces s.sized (said_front f p).first (encoded p.closing) w.0 rest w.1 in
      (o.0, r.0, w.2 ∙ ap (λ (rs : List (Numbered f.Row)). record { front = said_front f p; lists = f.says rs }) r.1, r.2)

  structure-back : f.head.zeros p.head ≡ true → Fair f p
      → structure f (f.header.look p.header) (behind_header f p) ≡ got (said f p) (encoded p.closing)
  unfolding structure in_front said and_then giving
  structure-back z fair =
      rw (own-so f.head (λ h. true) p.head s.head tail z refl)
      (rows_are ∙ ap (giving (λ (rs : List (Numbered f.Row)). record { front = said_front f p; lists = f.says rs }))
      (records-back (laid_out f p) p.pieces s.sized (said_front f p).first (encoded p.closing) fair))

-- ---- the content

-- parts that a content was got from: they read right, and the content is what they say
pub parts-right : (c : Content) (p : Parts) (rest : List ℕ) → Shaped (form c.table) p → content (bytes_of (form c.table) p) ≡ got c rest
    → PartsRight c.table p c.revision × (c ≡ content_in c.table p c.revision)
parts-right c p rest s e =
    let m = made _ c rest e in let h = header-said c.table p s m.front m.behind m.headed in
    let f = form c.table in
    let b =
    structure-said f p s c.structure m.tail (ap (λ (x : Front). structure f x (behind_header f p)) (sym h.is)
    ∙ ap (structure f m.front) (sym h.left) ∙ m.built) in
    let k : got c.closing m.end ≡ got p.closing [] = sym m.closed ∙ ap closing b.1 ∙ closing-encoded p.closing in
    let d : c.closing ≡ p.closing = cc in (
      record {
        shaped = s;
        number = h.number;
        subtype = h.subtype;
        zeros = h.zeros;
        header_zeros = h.header_zeros;
        limits = h.limits;
        head_zeros = b.0;
        fair = b.3;
        revision = subst (λ (ds : List Descriptor). ReadFrom c.revision (bodies revision_tag ds)) d (read-from _ _ _ m.revises);
      },
      ap (λ (x : Structure). record { table = c.table; structure = x; closing = c.closing; revision = c.revision }) b.2
          ∙ ap (λ (ds : List Descriptor). record { table = c.table; structure = said f p; closing = ds; revision = c.revision }) d,
    )

-- and back: parts that read right are read as what they say
pub right-parts : (t : Table) (p : Parts) (r : Revision) → PartsRight t p r → content (bytes_of (form t) p) ≡ got (content_in t p r) []
unfolding content content_of and_then giving
right-parts t p r k =
    let s = k.shaped in
    rw (header-back t p s k, structure-back (form t) p s k.head_zeros k.fair, closing-encoded p.closing, read_back _ r k.revision)

-- ---- every content has its parts

first_three : (bs : List ℕ) → 3 ≤ length bs → bs ≡ byte 0 bs ∷ byte 1 bs ∷ byte 2 bs ∷ from bs 3
unfolding byte from
first_three [] n = absurd (omega arith)
first_three (a ∷ []) n = absurd (omega arith)
first_three (a ∷ b ∷ []) n = absurd (omega arith)
first_three (a ∷ b ∷ c ∷ bs) n = refl

-- a header that is whole: its first three bytes, the form's part, and what is left
record Fronted (f : Form) (bs : List ℕ) (x : Front) (rest : List ℕ) : Type 0 where
  number : ℕ
  flags : ℕ
  low : ℕ
  own : List ℕ
  shaped : Own f.header own
  is : bs ≡ number ∷ flags ∷ low ∷ (own ++ rest)
  looks : x ≡ f.header.look own

header-behind : (f : Form) (a b c : ℕ) (l : List ℕ) (x : Front) (rest : List ℕ) → taken (header_of f) f.limits (a ∷ b ∷ c ∷ l) ≡ got x rest
    → Fronted f (a ∷ b ∷ c ∷ l) x rest
unfolding header_of from
header-behind f a b c l x rest e =
    let t = taken-got (header_of f) f.limits _ x rest e in
    let three : 3 + f.header.size ≡ suc (suc (suc f.header.size)) = omega arith in
    let all : extent (header_of f) (a ∷ b ∷ c ∷ l) ≡ suc (suc (suc (extent f.header l))) = rw three (omega arith) in
    let long : extent f.header l ≤ length l = omega (arith, t.fits, all) in
    record {
      number = a;
      flags = b;
      low = c;
      own = take (extent f.header l) l;
      shaped = own-whole f.header l long;
      is =
          ap (λ (y : List ℕ). a ∷ b ∷ c ∷ y) (sym (take-append-drop (extent f.header l) l)
          ∙ ap (λ (y : List ℕ). take (extent f.header l) l ++ y) (sym (rw all at t.behind)));
      looks = rw all at t.is;
    }

header_long : (f : Form) (bs : List ℕ) → extent (header_of f) bs ≤ length bs → 3 ≤ length bs
unfolding header_of
header_long f bs h = omega arith

header-split : (f : Form) (bs : List ℕ) (x : Front) (rest : List ℕ) → taken (header_of f) f.limits bs ≡ got x rest → Fronted f bs x rest
header-split f bs x rest e =
    let t = taken-got (header_of f) f.limits bs x rest e in
    let three = first_three bs (header_long f bs t.fits) in
    subst (λ (y : List ℕ). Fronted f y x rest) (sym three) (header-behind f _ _ _ _ x rest (ap (taken (header_of f) f.limits) (sym three) ∙ e))

-- a head and so many records, behind a header that said x
record Rows (f : Form) (x : Front) (bs rest : List ℕ) : Type 0 where
  head : List ℕ
  pieces : List Piece
  headed : Own f.head head
  sized : Sized (f.layout (f.joined x (f.head.look head))) pieces
  count : length pieces ≡ (f.joined x (f.head.look head)).count
  is : bs ≡ head ++ (area (f.layout (f.joined x (f.head.look head))).described pieces ++ rest)

-- the records, where y stands in front of them and is what header and head say
rows_split : (f : Form) (x y : Front) (own behind rest : List ℕ) (rs : List (Numbered f.Row)) → Own f.head own → y ≡ f.joined x (f.head.look own)
    → records (f.layout y) y.count y.first behind ≡ got rs rest → Rows f x (own ++ behind) rest
rows_split f x y own behind rest rs n is e =
    let at : records (f.layout (f.joined x (f.head.look own))) (f.joined x (f.head.look own)).count (f.joined x (f.head.look own)).first behind
    ≡ got rs rest =
    ap (λ (z : Front). records (f.layout z) z.count z.first behind) (sym is) ∙ e in
    let r = records-split (f.layout (f.joined x (f.head.look own))) _ _ behind rs rest at in
    record { head = own; pieces = r.0; headed = n; sized = r.1; count = r.2; is = ap (λ (l : List ℕ). own ++ l) r.3 }

structure-split : (f : Form) (x : Front) (bs rest : List ℕ) (z : Structure) → structure f x bs ≡ got z rest → Rows f x bs rest
unfolding structure in_front from
structure-split f x bs rest z e =
    let t = then-got _ _ _ _ e in let g = giving-got _ _ _ _ t.one in
    let h = taken-got f.head (λ h. true) bs g.0 t.behind g.1 in
    let own = take (extent f.head bs) bs in let w = giving-got _ _ _ _ t.more in
    let all : own ++ t.behind ≡ bs = ap (λ (l : List ℕ). own ++ l) h.behind ∙ take-append-drop (extent f.head bs) bs in
    subst (λ (l : List ℕ). Rows f x l rest) all (rows_split f x t.value own t.behind rest w.0 (own-whole f.head bs h.fits)
    (g.2 ∙ ap (f.joined x) h.is) w.1)

pub content-apart : (bs : List ℕ) (c : Content) (rest : List ℕ) → content bs ≡ got c rest
    → (p : Parts) × Shaped (form c.table) p × (bs ≡ bytes_of (form c.table) p)
unfolding bytes_of
content-apart bs c rest e =
    let f = form c.table in let m = made bs c rest e in
    let h = header-split f bs m.front m.behind (header-got bs _ m.behind m.headed).block in
    let x = structure-split f (f.header.look h.own) m.behind (encoded c.closing) c.structure
    (ap (λ (y : Front). structure f y m.behind) (sym h.looks) ∙ m.built ∙ ap (got c.structure) (closing-split _ _ _ m.closed)) in (
      record { number = h.number; flags = h.flags; low = h.low; header = h.own; head = x.head; pieces = x.pieces; closing = c.closing },
      record { header = h.shaped; head = x.headed; sized = x.sized; count = x.count },
      h.is ∙ ap (λ (l : List ℕ). h.number ∷ h.flags ∷ h.low ∷ (h.own ++ l)) x.is,
    )
