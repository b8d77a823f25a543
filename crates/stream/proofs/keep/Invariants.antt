use Rattle.stream.proofs.Moved.{Moved}
use Rattle.stream.proofs.keep.Given as goal

abbrev pub invariant-loop-i : goal.invariant-loop-i
invariant-loop-i l = Moved l.initial.buffer l.used l.i l.buffer
