-- A section in its parts, and their bytes: what growth adds to, and what a section that reads right is made of, with no byte left out.
use Rattle.std.specs.Prelude.{ℕ, ◌+◌, ◌≡◌, Bool, true, false, List, [], ◌∷◌, ◌++◌, length}
use Rattle.rules.specs.Descriptors.{Descriptor}
use Rattle.rules.specs.Layout.{Block, extent, Layout, Numbered}
use Rattle.rules.specs.Form.{Front, Form}
use Rattle.rules.specs.Section.{Structure}

-- a record: its own bytes, and its descriptors
pub record Piece : Type 0 where
  pub own : List ℕ
  pub list : List Descriptor

-- without its CRC: byte 0; byte 1, of two zero bits, two reserved bits and the high bits of L; byte 2, the low ones; the rest of the
-- header; the structure's head; the records; the closing list
pub record Parts : Type 0 where
  pub number : ℕ
  pub flags : ℕ
  pub low : ℕ
  pub header : List ℕ
  pub head : List ℕ
  pub pieces : List Piece
  pub closing : List Descriptor

-- ---- their bytes

unfoldable pub encoded : List Descriptor → List ℕ
encoded [] = []
encoded (d ∷ ds) = d.tag ∷ length d.body ∷ (d.body ++ encoded ds)

unfoldable pub piece_bytes : (described : Bool) → Piece → List ℕ
piece_bytes false p = p.own
piece_bytes true p = p.own ++ (length p.list ∷ encoded p.list)

unfoldable pub area : (described : Bool) → List Piece → List ℕ
area described [] = []
area described (p ∷ ps) = piece_bytes described p ++ area described ps

-- ---- what they say

-- all bytes of a block, and no more
abbrev pub Own : {R : Type 0} → Block R → List ℕ → Type 0
Own b bs = length bs ≡ extent b bs

module _ {R : Type 0} (l : Layout R) where
  -- each record has its own bytes, and a list only where a descriptor count stands
  abbrev pub Sized : List Piece → Type 0
  Sized [] = Unit {0}
  Sized (p ∷ ps) = Own l.block p.own × (l.described ≡ false → p.list ≡ []) × Sized ps

  -- pieces, the first at an index: each says what its own bytes say, counting on over the indices that it takes
  unfoldable pub said_from : (index : ℕ) → List Piece → List (Numbered R)
  said_from index [] = []
  said_from index (p ∷ ps) =
      record { index = index; what = l.block.look p.own }
      ∷ said_from (index + l.takes (l.block.look p.own)) ps

  -- and at these indices their zero bits are 0, and what they say is within the limits
  abbrev pub FairFrom : (index : ℕ) → List Piece → Type 0
  FairFrom index [] = Unit {0}
  FairFrom index (p ∷ ps) =
      (l.block.zeros p.own ≡ true)
      × (l.fair index (l.block.look p.own) ≡ true)
      × FairFrom (index + l.takes (l.block.look p.own)) ps

module _ (f : Form) (p : Parts) where
  -- what stands in front of the records, and how these are laid out
  abbrev pub said_front : Front
  said_front = f.joined (f.header.look p.header) (f.head.look p.head)

  abbrev pub laid_out : Layout f.Row
  laid_out = f.layout said_front

  unfoldable pub bytes_of : List ℕ
  bytes_of =
      p.number
      ∷ p.flags
      ∷ p.low
      ∷ (p.header ++ (p.head ++ (area laid_out.described p.pieces ++ encoded p.closing)))

  -- the parts are those of a section of the form
  pub record Shaped : Type 0 where
    pub header : Own f.header p.header
    pub head : Own f.head p.head
    pub sized : Sized laid_out p.pieces
    pub count : length p.pieces ≡ said_front.count

  -- the structure that they say, and that each record is fair
  unfoldable pub said : Structure
  said = record { front = said_front; lists = f.says (said_from laid_out said_front.first p.pieces) }

  abbrev pub Fair : Type 0
  Fair = FairFrom laid_out said_front.first p.pieces
