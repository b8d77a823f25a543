-- The refusals in their order, where a check is not passed: 14 has its place between 2 and 15. Of every question that asks so, tuning or another, and of
-- every way to refuse by a number.
use Prim.Native.Nat.{ℕ, ◌<◌, ◌≤◌}
use native.Mathlib.Omega.{arith}
use mathlib.Core.Path.{◌≡◌, refl, sym, ap, ◌∙◌}
use mathlib.Core.Bool.{Bool, true, false, cond}
use Rattle.rules.proofs.Taken.{differ}

-- the checks, told by what they test
abbrev pub Check : (roomy good live reads : Bool) → ℕ
Check roomy good live reads = cond roomy (cond good (cond live (cond reads 0 16) 15) 2) 1

module _ {A : Type 0} (refuse : ℕ → A) (ask : Bool → ℕ → A → A) (yes : (n : ℕ) (t : A) → ask true n t ≡ t) (no : (n : ℕ) (t : A) → ask false n t ≡ refuse n)
    (t : A) (n : ℕ) where
  abbrev pub Ask : (roomy good low live reads : Bool) → A
  Ask roomy good low live reads = ask roomy 1 (ask good 2 (ask low 14 (ask live 15 (ask reads 16 t))))

  pub early : (roomy good low live reads : Bool) → n ≡ Check roomy good live reads → (n ≡ 0 → ⊥) → n < 14 → refuse n ≡ Ask roomy good low live reads
  early false good low live reads e ne h = ap refuse e ∙ sym (no 1 _)
  early true false low live reads e ne h = ap refuse e ∙ sym (yes 1 _ ∙ no 2 _)
  early true true low false reads e ne h = absurd (omega arith)
  early true true low true false e ne h = absurd (omega arith)
  early true true low true true e ne h = absurd (ne e)

  pub high : (roomy good low live reads : Bool) → n ≡ Check roomy good live reads → 14 ≤ n → low ≡ false → refuse 14 ≡ Ask roomy good low live reads
  high false good low live reads e h f = absurd (omega arith)
  high true false low live reads e h f = absurd (omega arith)
  high true true true live reads e h f = absurd (differ f)
  high true true false live reads e h f = sym (yes 1 _ ∙ yes 2 _ ∙ no 14 _)

  pub late : (roomy good low live reads : Bool) → n ≡ Check roomy good live reads → (n ≡ 0 → ⊥) → 14 ≤ n → low ≡ true
      → refuse n ≡ Ask roomy good low live reads
  late false good low live reads e ne h f = absurd (omega arith)
  late true false low live reads e ne h f = absurd (omega arith)
  late true true false live reads e ne h f = absurd (differ (sym f))
  late true true true false reads e ne h f = ap refuse e ∙ sym (yes 1 _ ∙ yes 2 _ ∙ yes 14 _ ∙ no 15 _)
  late true true true true false e ne h f = ap refuse e ∙ sym (yes 1 _ ∙ yes 2 _ ∙ yes 14 _ ∙ yes 15 _ ∙ no 16 _)
  late true true true true true e ne h f = absurd (ne e)
