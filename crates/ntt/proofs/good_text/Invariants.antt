use Prim.Native.Nat.{◌-◌}
use lib.ListN.{length}
use Rattle.ntt.proofs.Texts.{Comes}
use Rattle.ntt.proofs.good_text.Given as goal

abbrev pub invariant-loop-at : goal.invariant-loop-at
invariant-loop-at l = Comes l.s l.at

abbrev pub decreases-loop-at : goal.decreases-loop-at
decreases-loop-at l = length l.s - l.at
