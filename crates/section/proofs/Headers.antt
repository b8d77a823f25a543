-- The header in the code's terms: which numbers a table has, where medium and subtype stand, which table they name, and its tests.
use Prim.Native.Nat.{ℕ, ◌/◌, ◌<◌, ◌≤◌}
use native.Mathlib.Omega.{arith}
use mathlib.Core.{Path.◌≡◌, Path.refl, Path.sym, Path.◌∙◌, Logic.◌⊎◌, Logic.inl, Logic.inr, List.List, Option.none, Option.some}
use mathlib.Core.Bool.{Bool, true, false, cond, ◌&&◌, ◌||◌}
use lib.{ListN.length, ListN.take, Dec.leb, Dec.eqb}
use borrow.Author.Tests.{le-leb, lt-leb, eq-eqb, ne_eqb, eqb-false}
use Rattle.rules.specs.Bytes.{got, unless, giving, byte, from}
use Rattle.rules.specs.{Layout.taken, Form.form, Search.first, Search.any, Search.otherwise, declared.Table.Table}
use Rattle.rules.specs.Section.{has_number, is_number, medium_at, named, header_of}
use Rattle.rules.specs.declared.Table.TheVariants.{Cds, Mms, Vcm, Dcm, Ntt}
use Rattle.rules.proofs.Truths.{differ}
use Rattle.fields.specs.Outline.{header_size}
use Rattle.fields.proofs.Outlines.{laid}
use Rattle.rules.specs.Refusals.{wrong, right}
use Rattle.section.specs.Reads.{table_of, headed_by}

-- ---- number, medium and subtype

pub number_is : (n : ℕ) → is_number n ≡ (eqb n 0xC2 || (eqb n 0xC3 || eqb n 0xC4))
unfolding is_number any has_number
number_is n = go (eqb n 0xC2) (eqb n 0xC3) (eqb n 0xC4)
  where
    go : (a b c : Bool) → (a || (a || (c || (c || (b || false))))) ≡ (a || (b || c))
    go true b c = refl
    go false true true = refl
    go false true false = refl
    go false false true = refl
    go false false false = refl

pub number_in : (n : ℕ) → 0xC2 ≤ n → n ≤ 0xC4 → true ≡ is_number n
number_in n h k = sym (number_is n ∙ go (eqb n 0xC2) refl (eqb n 0xC3) refl)
  where
    go : (a : Bool) → eqb n 0xC2 ≡ a → (b : Bool) → eqb n 0xC3 ≡ b → (a || (b || eqb n 0xC4)) ≡ true
    go true e b f = refl
    go false e true f = refl
    go false e false f = eq-eqb n 0xC4 (omega (arith, eqb-false n 0xC2 e, eqb-false n 0xC3 f))

pub number_below : (n : ℕ) → n < 0xC2 → false ≡ is_number n
number_below n h = rw (number_is n, ne_eqb n 0xC2 (λ e. omega arith), ne_eqb n 0xC3 (λ e. omega arith), ne_eqb n 0xC4 (λ e. omega arith))

pub number_above : (n : ℕ) → 0xC4 < n → false ≡ is_number n
number_above n h = rw (number_is n, ne_eqb n 0xC2 (λ e. omega arith), ne_eqb n 0xC3 (λ e. omega arith), ne_eqb n 0xC4 (λ e. omega arith))

pub medium-low : (n : ℕ) → n ≡ 0xC2 → medium_at n ≡ 6
unfolding medium_at first otherwise has_number
medium-low n e = rw e refl

pub medium-names : (n : ℕ) → n ≡ 0xC3 → medium_at n ≡ 7
unfolding medium_at first otherwise has_number
medium-names n e = rw e refl

pub medium-other : (n : ℕ) → (n ≡ 0xC2 → ⊥) → (n ≡ 0xC3 → ⊥) → medium_at n ≡ 4
unfolding medium_at first otherwise has_number
medium-other n a b = go (eqb n 0xC2) (eqb n 0xC3) (eqb n 0xC4) (ne_eqb n 0xC2 a) (ne_eqb n 0xC3 b)
  where
    go : (x y z : Bool) → x ≡ false → y ≡ false
        → (form (otherwise Dcm (cond x (some Cds) (cond x (some Mms) (cond z (some Vcm) (cond z (some Dcm) (cond y (some Ntt) none))))))).medium ≡ 4
    go true y z e f = absurd (differ e)
    go false true z e f = absurd (differ f)
    go false false true e f = refl
    go false false false e f = refl

pub named-low : (n m : ℕ) → n ≡ 0xC2 → named n m ≡ cond (eqb m 1) (some Cds) (cond (eqb m 2) (some Mms) none)
unfolding named first has_number
named-low n m e = rw e refl

pub named-high : (n m : ℕ) → n ≡ 0xC4 → named n m ≡ cond (eqb m 0) (some Vcm) (cond (eqb m 1) (some Dcm) none)
unfolding named first has_number
named-high n m e = rw e refl

pub named-names : (n m : ℕ) → n ≡ 0xC3 → named n m ≡ cond (eqb m 6) (some Ntt) none
unfolding named first has_number
named-names n m e = rw e refl

pub named_none : (n m : ℕ) → (n ≡ 0xC2 → ⊥) → (n ≡ 0xC3 → ⊥) → (n ≡ 0xC4 → ⊥) → named n m ≡ none
unfolding named first has_number
named_none n m a b c = rw (ne_eqb n 0xC2 a, ne_eqb n 0xC3 b, ne_eqb n 0xC4 c) refl

-- ---- the header whole, in the code's tests

header_is : (t : Table) (b : List ℕ)
    → headed_by t b ≡ giving (λ x. record { table = t; front = x })
    (unless (leb (header_size t) (length b)) 8 (unless (eqb (byte 1 b / 64) 0 && eqb (byte 3 b / 32) 0) 9
    (got ((header_of (form t)).look (take (header_size t) b)) (from b (header_size t)))))
unfolding headed_by taken unless
header_is t b = rw ((laid t).header b, (laid t).zeros b)

module _ (t : Table) (b : List ℕ) where
  pub whole-short : length b < header_size t → wrong 8 ≡ table_of (headed_by t b)
  unfolding table_of giving unless
  whole-short h = rw (header_is t b, lt-leb (header_size t) (length b) h)

  module _ (h : header_size t ≤ length b) where
    pub whole-high : (byte 1 b / 64 ≡ 0 → ⊥) → wrong 9 ≡ table_of (headed_by t b)
    unfolding table_of giving unless
    whole-high n = rw (header_is t b, le-leb (header_size t) (length b) h, ne_eqb _ _ n)

    module _ (z : byte 1 b / 64 ≡ 0) where
      pub whole-protocol : (byte 3 b / 32 ≡ 0 → ⊥) → wrong 9 ≡ table_of (headed_by t b)
      unfolding table_of giving unless
      whole-protocol n = rw (header_is t b, le-leb (header_size t) (length b) h, eq-eqb _ _ z, ne_eqb _ _ n)

      pub whole-right : byte 3 b / 32 ≡ 0 → right t ≡ table_of (headed_by t b)
      unfolding table_of giving unless
      whole-right p = rw (header_is t b, le-leb (header_size t) (length b) h, eq-eqb _ _ z, eq-eqb _ _ p)
