-- Fewer bytes than n in all, or a place too far back for n more.
use native.Mathlib.Omega.{arith}
use mathlib.Core.Path.{sym}
use Prim.Native.Nat.{◌+◌}
use lib.ListN.{length}
use borrow.Author.{Tests.lt-ltb}
use Rattle.fields.specs.Place.{cut_short}
use Rattle.fields.proofs.Laws.{short-past}
use Rattle.fields.proofs.short.Goals as goal

pub returns-then-b-n : goal.returns-then-b-n
unfolding cut_short
returns-then-b-n c =
    let a = c.args in sym (lt-ltb (length a.b.now) (a.at + a.n) (omega arith))

pub returns : goal.returns
unfolding cut_short
returns c =
    let a = c.args in short-past (length a.b.now) a.at a.n (omega arith)
