-- Where no index is above 255, what is left behind the records is what the layout without indices leaves.
use Prim.Native.Nat.{ℕ, zero, suc, ◌+◌, ◌≤◌}
use native.Mathlib.Omega.{arith}
use mathlib.Core.Path.{◌≡◌, refl, sym, ◌∙◌}
use mathlib.Core.Bool.{Bool, true, false, ◌&&◌}
use mathlib.Core.List.{List, ◌∷◌}
use Rattle.std.specs.Prelude.{⊤, Result}
use Rattle.rules.specs.declared.Refusal.{Refusal}
use borrow.Author.Tests.{le-leb}
use Rattle.rules.specs.Bytes.{Got, refused, got, and_then, giving}
use Rattle.rules.specs.Descriptors.{counted}
use Rattle.rules.specs.Layout.{taken, entry, after, records}
use Rattle.rules.specs.Tables.{mms, mode_fair, assigned}
use Rattle.rules.specs.declared.Mode.{Mode}
use Rattle.fields.specs.Place.{left_of, Stands}
use Rattle.fields.proofs.Laws.{left-giving}
use Rattle.mms.specs.Low.{low}

and_true : (a : Bool) → (a && true) ≡ a
and_true true = refl
and_true false = refl

fair-low : (index : ℕ) → index ≤ 255 → (m : Mode) → mms.fair index m ≡ low.fair 0 m
unfolding mms low mode_fair
fair-low index h m = rw (le-leb index 255 h) (and_true (assigned m))

module _ (n index j : ℕ) (same : (bs : List ℕ) → left_of (records mms n (index + 1) bs) ≡ left_of (records low n (j + 0) bs)) where
  more : (m : Mode) (d : Got ⊤)
      → left_of (and_then (giving (λ x. record { index = index; what = m }) d) (λ r rest. giving (λ rs. r ∷ rs) (records mms n (after mms r) rest)))
      ≡ left_of (and_then (giving (λ x. record { index = j; what = m }) d) (λ r rest. giving (λ rs. r ∷ rs) (records low n (after low r) rest)))
  unfolding and_then giving after mms low left_of
  more m (refused k) = refl
  more m (got x rest) = left-giving _ _ ∙ same rest ∙ sym (left-giving _ _)

  behind : (g : Got Mode)
      → left_of (and_then (and_then g (λ r rest. giving (λ x. record { index = index; what = r }) (counted true rest)))
      (λ r rest. giving (λ rs. r ∷ rs) (records mms n (after mms r) rest)))
      ≡ left_of (and_then (and_then g (λ r rest. giving (λ x. record { index = j; what = r }) (counted true rest)))
      (λ r rest. giving (λ rs. r ∷ rs) (records low n (after low r) rest)))
  unfolding and_then left_of
  behind (refused k) = refl
  behind (got m rest) = more m (counted true rest)

left-low : (n index j : ℕ) (bs : List ℕ) → index + n ≤ 256 → left_of (records mms n index bs) ≡ left_of (records low n j bs)
unfolding records entry mms low left_of
left-low zero index j bs h = refl
left-low (suc n) index j bs h =
    let fair : mms.fair index ≡ low.fair j = λ i m. fair-low index (omega (arith, h)) m i in
    rw fair
    (behind n index j (λ rest. left-low n (index + 1) (j + 0) rest (omega (arith, h))) (taken mms.block (low.fair j) bs))

pub stands_low : (b : List ℕ) (r : Result ℕ Refusal) (count first : ℕ) (bs : List ℕ) → first + count ≤ 256 → Stands b r (records low count first bs)
    → Stands b r (records mms count first bs)
stands_low b r count first bs h s = record { means = s.means ∙ sym (left-low count first first bs h); within = s.within }
