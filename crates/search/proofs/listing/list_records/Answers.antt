-- At both loops each number's entry, or else the one from here on, is the entry of the first match of all.
use Prim.Native.Nat.{◌+◌}
use native.Mathlib.{Omega.arith, Nat.sub-zero}
use mathlib.Core.Path.{refl, ◌∙◌}
use Rattle.fields.proofs.Laws.{at-got, at-no}
use Rattle.search.proofs.{Sections.one_of, Sections.behind-all, Sections.live-place, Entries.fits, Entries.small, Entries.never}
use Rattle.search.proofs.Listed.{begin, enter, leave, lists, list_on}
use Rattle.search.proofs.listing.list_records.Goals as goal
use Rattle.search.proofs.listing.list_records.Goals.{else-loop-k-test, then-loop-k-test+in_default}

pub loop-i-init : goal.loop-i-init
loop-i-init c = (refl, begin _ _ _ _ c.requires.blank)

pub loop-k-init : goal.loop-k-init
loop-k-init c =
    let e = c.holding_of-h.ensures in (
      refl,
      (λ x. rw sub-zero (enter c.args.s c.args.store.now c.args.t (c.loop-i.invariant.1 x) c.requires.live
          (one_of _ _ _ e c.loop-i-test.true) _ _ _ c.live_bytes-b.ensures
          c.outline_in-walk.ensures (c.place_of-start.ensures ∙ live-place _ _ _ e))),
      omega arith,
    )

pub past_record-requires : goal.past_record-requires
past_record-requires c = fits _ _ _ _ (c.loop-k.invariant.1 0).ahead (omega arith)

pub list_one-takes-requires : goal.list_one-takes-requires
list_one-takes-requires c =
    omega (arith, small _ _ _ _ (c.loop-k.invariant.1 0).ahead (omega (arith, c.loop-k-test.true)))

pub loop-k-preserved : goal.loop-k-preserved
loop-k-preserved c =
    let g = (at-got _ _ _ c.past_record.ensures _ c.in-Ok.is).1 in
    let e = c.list_one-takes.ensures in (
      e.marked.long ∙ c.loop-k.invariant.0,
      (λ x. list_on _ _ _ _ (c.loop-k.invariant.1 x) (omega (arith, c.loop-k-test.true)) g e refl),
      omega arith,
    )

pub loop-i-preserved : goal.loop-i-preserved
loop-i-preserved c =
    let l = c.loop-k.invariant in (
      l.0 ∙ c.loop-i.invariant.0,
      λ x. elim c.loop-k-test.branch [
        | else-loop-k-test w ↦ leave _ _ _ (l.1 x) (omega arith)
        | then-loop-k-test+in_default w ↦ absurd (never _ _ _ _ (l.1 x).ahead (omega arith) (at-no _ _ _ w.past_record.ensures _ w.in_default.is))
      ],
    )

pub returns-2-clause-lists : goal.returns-2-clause-lists
returns-2-clause-lists c =
    lists _ _ _ _ (c.loop-i.i + 1) (behind-all _ _ _ c.holding_of-h.ensures (omega arith)) (λ x. elim c.loop-k-test.branch [
      | else-loop-k-test w ↦ leave _ _ _ (c.loop-k.invariant.1 x) (omega arith)
      | then-loop-k-test+in_default w ↦ absurd (never _ _ _ _ (c.loop-k.invariant.1 x).ahead (omega arith) (at-no _ _ _ w.past_record.ensures _ w.in_default.is))
    ])

pub overflow_add-start : goal.overflow_add-start
overflow_add-start c =
    omega (arith, small _ _ _ _ (c.loop-k.invariant.1 0).ahead (omega (arith, c.loop-k-test.true)))
