use Prim.Native.Nat.{◌-◌}
use mathlib.Core.Path.{◌≡◌}
use lib.ListN.{length}
use Rattle.rules.specs.Bytes.{from}
use Rattle.section.specs.Closes.{closed_of}
use Rattle.section.proofs.Lists.{closed_with}
use Rattle.section.proofs.closing.close_list.Given as goal

abbrev pub invariant-loop-at : goal.invariant-loop-at
invariant-loop-at l = closed_of (from l.b l.start) ≡ closed_with l.b l.seen (from l.b l.at)

abbrev pub decreases-loop-at : goal.decreases-loop-at
decreases-loop-at l = length l.b - l.at
