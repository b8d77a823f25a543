-- After each turn the numbers below are marked.
use Rattle.search.proofs.Marks.{none-marked, more-marked}
use Rattle.search.proofs.listing.mark.Goals as goal

pub loop-i-init : goal.loop-i-init
loop-i-init c = none-marked _ _ _

pub loop-i-preserved : goal.loop-i-preserved
loop-i-preserved c = more-marked _ _ _ _ _ _ c.loop-i.invariant c.mark_one.ensures
