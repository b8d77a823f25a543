-- Tests that hold or do not: what follows from the sides of `&&` and `||`, and numbers that a test tells apart.
use Prim.Native.Nat.{ℕ, ◌≤◌}
use native.Mathlib.Omega.{arith}
use mathlib.Core.Path.{◌≡◌, refl, sym, ◌∙◌}
use mathlib.Core.{Logic.◌⊎◌, Logic.inl, Logic.inr}
use mathlib.Core.Bool.{Bool, true, false, ◌&&◌, ◌||◌}
use lib.Dec.{eqb, leb}
use borrow.Author.Tests.{eq-eqb, le-leb}

pub differ : true ≡ false → ⊥
differ e = let z : ◌≡◌ {A = ℕ} 0 1 = cc in omega arith

-- a test decides
pub by-test : {P : Type 0} (b : Bool) → (b ≡ true → P) → (b ≡ false → P) → P
by-test true so otherwise = so refl
by-test false so otherwise = otherwise refl

pub not_so : (b : Bool) → (b ≡ true → ⊥) → b ≡ false
not_so true ne = absurd (ne refl)
not_so false ne = refl

pub both_left : (a b : Bool) → (a && b) ≡ true → a ≡ true
both_left true b e = refl
both_left false b e = e

pub both_right : (a b : Bool) → (a && b) ≡ true → b ≡ true
both_right true b e = e
both_right false b e = absurd (differ (sym e))

pub neither_left : (a b : Bool) → (a || b) ≡ false → a ≡ false
neither_left true b e = e
neither_left false b e = refl

pub neither_right : (a b : Bool) → (a || b) ≡ false → b ≡ false
neither_right true b e = absurd (differ e)
neither_right false b e = e

-- one of the two
pub or-says : (a b : Bool) → (a || b) ≡ true → (a ≡ true) ⊎ (b ≡ true)
or-says true b e = inl refl
or-says false b e = inr e

pub or_right : (a b : Bool) → b ≡ true → (a || b) ≡ true
or_right true b e = refl
or_right false b e = e

pub unlike : {a b : ℕ} → eqb a b ≡ false → a ≡ b → ⊥
unlike e q = differ (sym (eq-eqb _ _ q) ∙ e)

pub not-most : {a b : ℕ} → leb a b ≡ false → a ≤ b → ⊥
not-most e h = differ (sym (le-leb _ _ h) ∙ e)
