use mathlib.Core.{Path.◌≡◌}
use lib.ListN.{length}
use lib.Seq.{paste}
use Rattle.fields.proofs.put.Given as goal

abbrev pub invariant-loop-i : goal.invariant-loop-i
invariant-loop-i l = (l.store ≡ paste l.initial.store l.at l.bytes l.i) × (length l.store ≡ length l.initial.store)
