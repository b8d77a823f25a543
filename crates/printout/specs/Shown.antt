-- What a program prints. A contract cannot say which bytes a read gives: it is the text of some input that begins with the map number that was
-- read.
use Rattle.std.specs.Prelude.{ℕ, ◌<◌, length}
use mathlib.Core.{Path.◌≡◌, List.List, List.[], List.◌++◌}

-- the two parts, one behind the other, are the text of the first bytes and some rest; fewer than two have none
pub record Shown (text : (input : List ℕ) → List ℕ) (head heading lines : List ℕ) : Type 0 where
  pub rest : List ℕ
  pub is : heading ++ lines ≡ text (head ++ rest)
  pub none : length head < 2 → rest ≡ []
