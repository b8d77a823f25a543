-- The first that has a property, and that none has it (specs/Answered.antt), in lists that stand one behind the other.
use Prim.Native.Nat.{ℕ}
use native.Mathlib.Omega.{arith}
use mathlib.Core.Path.{◌≡◌, refl, sym, ap, subst, ◌∙◌}
use mathlib.Core.{Logic.◌⊎◌, Logic.inl, Logic.inr}
use mathlib.Core.List.{List, [], ◌∷◌, ◌++◌, append-nil, append_assoc}
use Rattle.rules.specs.Answered.{Nowhere, First}

module _ {R : Type 0} where
  -- of two ways to part a list, one begins with the other's first part
  pub two_ways : (a b c d : List R) → a ++ b ≡ c ++ d
      → ((more : List R) × (c ≡ a ++ more) × (b ≡ more ++ d)) ⊎ ((more : List R) × (a ≡ c ++ more) × (d ≡ more ++ b))
  two_ways [] b c d e = inl (c, refl, e)
  two_ways (x ∷ a) b [] d e = inr (x ∷ a, refl, sym e)
  two_ways (x ∷ a) b (y ∷ c) d e = go (two_ways a b c d cc)
    where
      same : x ≡ y
      same = cc

      go : ((more : List R) × (c ≡ a ++ more) × (b ≡ more ++ d)) ⊎ ((more : List R) × (a ≡ c ++ more) × (d ≡ more ++ b))
          → ((more : List R) × ((y ∷ c) ≡ (x ∷ a) ++ more) × (b ≡ more ++ d)) ⊎ ((more : List R) × ((x ∷ a) ≡ (y ∷ c) ++ more) × (d ≡ more ++ b))
      go (inl (more, p, q)) = inl (more, cc, q)
      go (inr (more, p, q)) = inr (more, cc, q)

  -- so a record of two lists one behind the other stands in the first or in the second
  pub parted : (a b before : List R) (r : R) (behind : List R) → a ++ b ≡ before ++ (r ∷ behind)
      → ((rest : List R) × (a ≡ before ++ (r ∷ rest))) ⊎ ((more : List R) × (before ≡ a ++ more) × (b ≡ more ++ (r ∷ behind)))
  parted a b before r behind e = go (two_ways a b before (r ∷ behind) e)
    where
      go : ((more : List R) × (before ≡ a ++ more) × (b ≡ more ++ (r ∷ behind))) ⊎ ((more : List R) × (a ≡ before ++ more) × ((r ∷ behind) ≡ more ++ b))
          → ((rest : List R) × (a ≡ before ++ (r ∷ rest))) ⊎ ((more : List R) × (before ≡ a ++ more) × (b ≡ more ++ (r ∷ behind)))
      go (inl in-second) = inr in-second
      go (inr ([], p, q)) = inr ([], sym (append-nil a ∙ p ∙ append-nil before), sym q)
      go (inr (x ∷ more, p, q)) = let same : r ≡ x = cc in inl (more, rw same p)

  -- an empty list has none
  pub nothing-in : (before : List R) (r : R) (behind : List R) → [] ≡ before ++ (r ∷ behind) → ⊥
  nothing-in [] r behind e = let z : ◌≡◌ {A = ℕ} 0 1 = cc in omega arith
  nothing-in (x ∷ before) r behind e = let z : ◌≡◌ {A = ℕ} 0 1 = cc in omega arith

  module _ {P : R → Type 0} where
    pub nowhere-left : (a b : List R) → Nowhere P (a ++ b) → Nowhere P a
    nowhere-left a b w = record { none = λ p q x e. w.none p (q ++ b) x (ap (λ (l : List R). l ++ b) e ∙ append_assoc p (x ∷ q) b) }

    pub nowhere-right : (a b : List R) → Nowhere P (a ++ b) → Nowhere P b
    nowhere-right a b w = record { none = λ p q x e. w.none (a ++ p) q x (ap (λ (l : List R). a ++ l) e ∙ sym (append_assoc a p (x ∷ q))) }

    pub nowhere-none : Nowhere P []
    nowhere-none = record { none = λ p q x e h. nothing-in p x q e }

    -- one more at the end: it has not the property, or is the first that has
    pub nowhere-end : (a : List R) (r : R) → Nowhere P a → (P r → ⊥) → Nowhere P (a ++ (r ∷ []))
    nowhere-end a r w out = record { none = λ p q x e h. go p q x h (parted a (r ∷ []) p x q e) }
      where
        last : (more : List R) (x : R) (q : List R) → (r ∷ []) ≡ more ++ (x ∷ q) → x ≡ r
        last [] x q e = cc
        last (y ∷ more) x q e = absurd (nothing-in more x q cc)

        go : (p q : List R) (x : R) → P x
            → ((rest : List R) × (a ≡ p ++ (x ∷ rest))) ⊎ ((more : List R) × (p ≡ a ++ more) × ((r ∷ []) ≡ more ++ (x ∷ q))) → ⊥
        go p q x h (inl (rest, e)) = w.none p rest x e h
        go p q x h (inr (more, e, f)) = out (subst P (last more x q f) h)

    pub first-end : (a : List R) (r : R) → Nowhere P a → P r → First P (a ++ (r ∷ [])) r
    first-end a r w h = record { before = a; behind = []; stands = refl; has = h; none_before = w }

    -- and whatever comes behind it, it stays the first
    pub first_more : (a b : List R) (r : R) → First P a r → First P (a ++ b) r
    first_more a b r f =
        record {
          before = f.before;
          behind = f.behind ++ b;
          stands = ap (λ (l : List R). l ++ b) f.stands ∙ append_assoc f.before (r ∷ f.behind) b;
          has = f.has;
          none_before = f.none_before;
        }

    -- two that are the first are one
    pub first-once : (l : List R) (r q : R) → First P l r → First P l q → r ≡ q
    first-once l r q f g = go (parted f.before (r ∷ f.behind) g.before q g.behind (sym f.stands ∙ g.stands))
      where
        here : (more : List R) → g.before ≡ f.before ++ more → (r ∷ f.behind) ≡ more ++ (q ∷ g.behind) → r ≡ q
        here [] e stands = cc
        here (x ∷ more) e stands =
            let is : x ≡ r = cc in absurd (g.none_before.none f.before more x e (subst P (sym is) f.has))

        go : ((rest : List R) × (f.before ≡ g.before ++ (q ∷ rest)))
            ⊎ ((more : List R) × (g.before ≡ f.before ++ more) × ((r ∷ f.behind) ≡ more ++ (q ∷ g.behind))) → r ≡ q
        go (inl (rest, e)) = absurd (f.none_before.none g.before rest q e g.has)
        go (inr (more, e, stands)) = here more e stands
