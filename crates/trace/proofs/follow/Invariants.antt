-- Each turn offers one section, and the lent buffer keeps its length; the turns are the measure.
use mathlib.Core.Path.{◌≡◌}
use lib.ListN.{length}
use Rattle.trace.proofs.follow.Given as goal

abbrev pub invariant-loop-turn : goal.invariant-loop-turn
invariant-loop-turn g l = length l.buffer ≡ length l.initial.buffer
