-- A fresh state, and nothing counted.
use Rattle.stream.specs.Tallied.{begun}
use Rattle.stream.proofs.begin.Goals as goal

pub returns : goal.returns
unfolding begun
returns c = rw c.start.ensures
