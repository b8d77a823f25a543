use Prim.Native.Nat.{◌-◌}
use mathlib.Core.{Path.◌≡◌}
use lib.ListN.{length}
use Rattle.capture.proofs.Laws.{Going}
use Rattle.capture.proofs.follow.Given as goal

abbrev pub invariant-loop-made : goal.invariant-loop-made
invariant-loop-made g l =
    (length l.store ≡ length l.initial.store)
    × (length l.buffer ≡ length l.initial.buffer)
    × Going l.initial.held.tally l.initial.store l.initial.buffer (140737488355328 - l.made) l.held l.store l.buffer
