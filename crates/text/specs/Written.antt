-- A text written into a buffer, and the parts of a line that the code writes one by one, over the bytes of a key.
use Rattle.std.specs.Prelude.{ℕ, ◌+◌, ◌/◌, ◌%◌, ◌≤◌, ◌≡◌, List, [], ◌∷◌, ◌++◌, length, take}
use Rattle.rules.specs.Holding.{put}
use Rattle.rules.specs.Lineup.{text, decimal}
use Rattle.rules.specs.LabelLines.{hex_digit}

-- a text was put into out from `at` on: r is the place behind it, and out' is what out holds then, byte for byte
pub record Wrote (out : List ℕ) (at : ℕ) (bytes out' : List ℕ) (r : ℕ) : Type 0 where
  pub room : at + length bytes ≤ length out
  pub behind : r ≡ at + length bytes
  pub holds : out' ≡ put out at bytes

-- r counts bytes at the front of xs; in both words, as a caller's `&xs[..r]` asks for them
abbrev pub Counts : ℕ → List ℕ → Type 0
Counts r xs = (r ≤ length xs) × (r ≡ length (take r xs))

-- the two digits of a byte
unfoldable pub hex_pair : (b : ℕ) → List ℕ
hex_pair b = hex_digit (b / 16) ∷ hex_digit (b % 16) ∷ []

-- ---- the rules' `field`, `line` and `front`, over the bytes of a text

unfoldable pub field_of : (key : List ℕ) → ℕ → List ℕ
field_of key n = key ++ decimal n

unfoldable pub line_of : (key value : List ℕ) → List ℕ
line_of key value = key ++ value ++ text "\n"

unfoldable pub front_of : (number : ℕ) → (kind : List ℕ) → (hidden path : ℕ) → List ℕ
front_of number kind hidden path =
    field_of (text "channel=") number ++ kind ++ field_of (text " hidden=") hidden ++ field_of (text " path=") path

-- ---- what several lines begin with

unfoldable pub khz_front : (number : ℕ) → (kind : List ℕ) → (hidden path khz : ℕ) → List ℕ
khz_front number kind hidden path khz = front_of number kind hidden path ++ field_of (text " khz=") khz

unfoldable pub coding_fields : (system inner split : ℕ) → List ℕ
coding_fields system inner split =
    field_of (text " system=") system ++ field_of (text " inner=") inner ++ field_of (text " split=") split

unfoldable pub count_lines : (map sections refused : ℕ) → List ℕ
count_lines map sections refused =
    text "lineup=1\n"
    ++ line_of (text "map=") (decimal map)
    ++ line_of (text "sections=") (decimal sections)
    ++ line_of (text "refused=") (decimal refused)
