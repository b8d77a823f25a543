-- At the loop the entry of the first match from here on is the answer.
use native.Mathlib.{Omega.arith, Nat.sub-zero}
use mathlib.Core.Path.{refl, ap, ◌∙◌}
use Rattle.fields.proofs.Laws.{at-got, at-no}
use Rattle.search.proofs.Sections.{one_of, live-place}
use Rattle.search.proofs.Entries.{seek, seek-fits, seek-small, seek-never, seek-none, hit, miss}
use Rattle.search.proofs.entry_within.Goals as goal

pub loop-k-init : goal.loop-k-init
loop-k-init g c =
    let t = g.R.Searched.TABLE in
    let e = c.TABLE-t.ensures in
    let h = rw e at c.holding_of-h.ensures in
    let place = c.place_of-start.ensures ∙ live-place c.args.s _ c.args.i c.holding_of-h.ensures in
    let bytes = c.live_bytes-b.ensures in (
      rw sub-zero (seek _ c.args.s c.args.store.now t (g.R.Searched.goes_by c.args.key) {i = c.args.i} c.requires.live
          (one_of c.args.s t _ h (omega (arith, c.requires.one, ap (λ x. x.live.last) h))) _ _ _ (rw e at bytes)
          (rw e at c.outline_in-walk.ensures) (rw e at place) c.rows-rows.ensures),
      omega arith,
    )

pub overflow_add-at : goal.overflow_add-at
overflow_add-at g c = omega (arith, seek-fits _ _ _ _ _ c.loop-k.invariant.0 c.size-size.ensures.value (omega (arith, c.loop-k-test.true)))

pub overflow_add-r : goal.overflow_add-r
overflow_add-r g c = omega (arith, seek-fits _ _ _ _ _ c.loop-k.invariant.0 c.size-size.ensures.value (omega (arith, c.loop-k-test.true)))

pub slice_bounds-r-end : goal.slice_bounds-r-end
slice_bounds-r-end g c = omega (arith, seek-fits _ _ _ _ _ c.loop-k.invariant.0 c.size-size.ensures.value (omega (arith, c.loop-k-test.true)))

pub entry_at-requires : goal.entry_at-requires
entry_at-requires g c =
    omega (arith, seek-small _ _ _ _ _ c.loop-k.invariant.0 c.size-size.ensures.value (omega (arith, c.loop-k-test.true)))

pub returns-then-is_sought : goal.returns-then-is_sought
returns-then-is_sought g c =
    let q = at-got _ _ _ c.past_counted.ensures _ c.in-Ok.is in
    c.entry_at.ensures ∙ hit _ _ _ _ _ c.loop-k.invariant.0 c.size-size.ensures.value c.described.ensures _ q.1 c.is_sought.ensures
    (omega (arith, c.loop-k-test.true)) c.if-is_sought.true

pub loop-k-preserved : goal.loop-k-preserved
loop-k-preserved g c =
    let q = at-got _ _ _ c.past_counted.ensures _ c.in-Ok.is in (
      miss _ _ _ _ _ c.loop-k.invariant.0 c.size-size.ensures.value c.described.ensures _ q.1 c.is_sought.ensures
          (omega (arith, c.loop-k-test.true)) refl c.takes.ensures c.if-is_sought.false,
      omega arith,
    )

pub returns-in_default : goal.returns-in_default
returns-in_default g c =
    absurd (seek-never _ _ _ _ _ c.loop-k.invariant.0 c.size-size.ensures.value c.described.ensures (omega (arith, c.loop-k-test.true))
    (at-no _ _ _ c.past_counted.ensures _ c.in_default.is))

pub returns-after-loop-k : goal.returns-after-loop-k
returns-after-loop-k g c = seek-none _ _ _ _ _ c.loop-k.invariant.0 (omega (arith, c.loop-k-test.false))
