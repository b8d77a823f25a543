-- The search through rows, in the rules' words.
use Prim.Native.Nat.{ℕ, ◌<◌}
use lib.Dec.{leb}
use mathlib.Core.{Path.◌≡◌, Path.refl, Path.◌∙◌, List.List, List.[], List.◌∷◌, Bool.Bool, Bool.true}
use Rattle.std.specs.List.{list_any}
use Rattle.std.specs.Prelude.{nat_eq}
use Rattle.std.proofs.lemmas.Bool.{agree_below, agree_below_at}
use Rattle.std.proofs.lemmas.Cmp.{nat_eq_equiv}
use Rattle.rules.specs.Tables.{among}

any-among : (x : ℕ) (rows : List ℕ) → list_any (λ y. nat_eq y x) rows ≡ among x rows
unfolding among
any-among x [] = refl
any-among x (y ∷ ys) = rw (nat_eq_equiv.symm x y, any-among x ys)

pub among_any : (x : ℕ) (rows : List ℕ) {r : Bool} → r ≡ list_any (λ y. nat_eq y x) rows → r ≡ among x rows
among_any x rows e = e ∙ any-among x rows

-- The rows are taken from what is known of the search through them: they are written down in the code and nowhere else.
abbrev pub searched : {r : Bool} (x : ℕ) (rows : List ℕ) → r ≡ among x rows → List ℕ
searched x rows e = rows

-- Rows and a rule agree: one test, tried at every value that a byte can have, so at every value of the field.
abbrev pub agree : List ℕ → (ℕ → Bool) → Bool
agree rows rule = agree_below (λ y. among y rows) rule 256

pub told : (rows : List ℕ) (rule : ℕ → Bool) → agree rows rule ≡ true → (x : ℕ) → x < 256 → among x rows ≡ rule x
told rows rule e x h = agree_below_at (λ y. among y rows) rule 256 x e h

-- the rows that are 0 to 24
pub up_to_24 : (x : ℕ) (rows : List ℕ) {r : Bool} → r ≡ among x rows → x < 256 → agree rows (λ y. leb y 24) ≡ true → r ≡ leb x 24
up_to_24 x rows e h a = e ∙ told rows (λ y. leb y 24) a x h
