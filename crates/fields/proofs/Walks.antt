-- A walk over the records of an outline, of every layout: how it begins, a turn, where it stops and how it ends.
use Prim.Native.Nat.{ℕ, zero, suc, ◌+◌, ◌-◌, ◌≤◌, ◌<◌}
use native.Mathlib.Omega.{arith}
use mathlib.Core.Path.{◌≡◌, refl, sym, ap, ◌∙◌}
use mathlib.Core.{Bool.true, Bool.false, List.List, List.◌∷◌}
use lib.ListN.{length}
use Rattle.rules.specs.Bytes.{got, and_then, from}
use Rattle.rules.specs.Descriptors.{counted}
use Rattle.rules.specs.Layout.{Layout, Numbered, numbered, entry, after, records}
use Rattle.rules.proofs.Taken.{entry-got}
use Rattle.fields.specs.declared.records.Reached.{Reached}
use Rattle.fields.specs.Place.{Left, no, left_of, here, Stands, Passes, Reaches}
use Rattle.std.specs.Prelude.{Result, Ok, Err}
use Rattle.rules.specs.Refusals.{number}
use Rattle.rules.specs.declared.Refusal.{Refusal}
use Rattle.fields.proofs.Laws.{at_in, at-got, at-no, left-giving}

module _ {R : Type 0} (l : Layout R) where
  -- no record: what no descriptors leave
  pub none : {b : List ℕ} (start first : ℕ) {count : ℕ} {r : Result ℕ Refusal} → count ≡ 0 → Stands b r (counted false (from b start))
      → Stands b r (records l count first (from b start))
  unfolding left_of records counted
  none start first z s = record { means = rw z s.means; within = s.within }

  pub begin : {b : List ℕ} {start first count : ℕ} → (count ≤ 0 → start ≤ length b) → first < 65536 → Reaches l b start first count start first count
  begin h k = record { within = h; small = k; same = refl }

  module _ {b : List ℕ} (at index : ℕ) {r : Result ℕ Refusal} (s : Stands b r (entry l index (from b at))) where
    -- a record that is passed over is within its limits
    pub turn-fair : (i : ℕ) → r ≡ Ok i → l.fair index (here l b at) ≡ true
    turn-fair i e = let g = at-got b r _ s i e in (entry-got l index (from b at) g.0 (from b i) g.1).fair

    one_less : (i count : ℕ) (w : Left) → 0 < count → r ≡ Ok i → w ≡ left_of (records l count index (from b at))
        → w ≡ left_of (records l (count - 1) (index + l.takes (here l b at)) (from b i))
    unfolding records and_then after numbered
    one_less i zero w h e q = absurd (omega arith)
    one_less i (suc n) w h e q =
        let m : suc n - 1 ≡ n = omega arith in
        let g = at-got b r _ s i e in
        let k = (entry-got l index (from b at) g.0 (from b i) g.1).is in
        let f : entry l index (from b at) ≡ got (numbered l index (from b at)) (from b i) = g.1 ∙ ap (λ (x : Numbered R). got x (from b i)) k in
        q ∙ rw f (left-giving (λ rs. numbered l index (from b at) ∷ rs) (records l n (index + l.takes (here l b at)) (from b i)) ∙ rw m)

    refused-here : (n : Refusal) (count : ℕ) (w : Left) → 0 < count → r ≡ Err n → w ≡ left_of (records l count index (from b at)) → no (number n) ≡ w
    unfolding records and_then left_of
    refused-here n zero w h e q = absurd (omega arith)
    refused-here n (suc m) w h e q = sym (q ∙ rw (at-no b r _ s n e))

  module _ {b : List ℕ} {start first count at index left : ℕ} (w : Reaches l b start first count at index left) (some : 0 < left) where
    -- over the record at the place, to the index behind those that it takes
    pub turn : {x : Reached} → Passes l b at index (Ok x) → x.index < 65536 → Reaches l b start first count x.at x.index (left - 1)
    turn {x} p k =
        record {
          within = λ done. at_in b (Ok x.at) _ p.stands x.at refl;
          small = k;
          same = rw p.counted (one_less at index p.stands x.at left _ some refl w.same);
        }

    pub stop : {n : Refusal} → Passes l b at index (Err n) → Stands b (Err n) (records l count first (from b start))
    stop {n} p = record { means = refused-here at index p.stands n left _ some refl w.same; within = tt }

  pub end : {b : List ℕ} {start first count at index left : ℕ} → Reaches l b start first count at index left → left ≤ 0
      → Stands b (Ok at) (records l count first (from b start))
  unfolding left_of records
  end {left = left} w h = let z : left ≡ 0 = omega arith in record { means = sym (w.same ∙ rw z); within = w.within h }

  -- a walk that goes on from where another one stopped
  pub joined : {b : List ℕ} {start first count at index left : ℕ} {r : Result ℕ Refusal} → Reaches l b start first count at index left
      → Stands b r (records l left index (from b at)) → Stands b r (records l count first (from b start))
  joined w s = record { means = s.means ∙ sym w.same; within = s.within }
