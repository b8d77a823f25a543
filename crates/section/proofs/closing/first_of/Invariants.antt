use Prim.Native.Nat.{◌-◌}
use mathlib.Core.Path.{◌≡◌}
use mathlib.Core.Bool.{true}
use lib.ListN.{length}
use Rattle.rules.specs.{Bytes.from, Descriptors.closing}
use Rattle.section.specs.Closes.{filled, first_in}
use Rattle.section.proofs.closing.first_of.Given as goal

abbrev pub invariant-loop-at : goal.invariant-loop-at
invariant-loop-at l = (filled (closing (from l.b l.at)) ≡ true) × (first_in l.tag l.start (closing (from l.b l.start)) ≡ first_in l.tag l.at (closing (from l.b l.at)))

abbrev pub decreases-loop-at : goal.decreases-loop-at
decreases-loop-at l = length l.b - l.at
