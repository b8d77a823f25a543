-- The count is there or it is not; where no descriptors follow, the place stays.
use native.Mathlib.Omega.{arith}
use Rattle.fields.proofs.Laws.{stands-no, stands-as, counted-none, counted_none, counted-some}
use Rattle.fields.proofs.past_counted.Goals as goal

pub returns-then-not-described : goal.returns-then-not-described
returns-then-not-described c = counted-none _ _ _ c.if-not-described.true _ c.min.ensures

pub returns-then-b-at : goal.returns-then-b-at
returns-then-b-at c = stands-no _ _ _ (counted_none _ _ _ c.if-not-described.false c.if-b-at.true)

pub returns : goal.returns
returns c =
    stands-as _ _ _ _ (counted-some _ _ _ c.if-not-described.false (omega arith)) c.past_some.ensures
