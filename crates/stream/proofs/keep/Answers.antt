-- After i turns i bytes are moved, and the bytes behind them are as they were.
use Prim.Native.Nat.{◌-◌}
use native.Mathlib.Omega.{arith}
use mathlib.Core.Path.{◌≡◌, refl}
use Rattle.stream.proofs.Moved.{move, move-on, moved}
use Rattle.stream.proofs.keep.Goals as goal

pub bounds-buffer-used : goal.bounds-buffer-used
bounds-buffer-used c = omega (arith, c.loop-i.invariant.same, c.loop-i-test.true, c.requires.0, c.requires.1)

pub loop-i-preserved : goal.loop-i-preserved
loop-i-preserved c = move-on c.loop-i.invariant (omega (arith, c.loop-i-test.true, c.requires.0, c.requires.1))

pub returns : goal.returns
returns c =
    let l = c.loop-i in
    let a = c.args in
    let e : l.i ≡ a.have - a.used = omega arith in record {
      value = refl;
      buffer_after = rw e at (moved l.invariant (omega (arith, e, c.requires.0, c.requires.1)));
    }

pub loop-i-init : goal.loop-i-init
loop-i-init c = move c.args.buffer.now c.args.used

pub bounds-buffer-i : goal.bounds-buffer-i
bounds-buffer-i c = omega (arith, c.loop-i.invariant.same, c.loop-i-test.true, c.requires.0, c.requires.1)

pub shape_of-buffer : goal.shape_of-buffer
shape_of-buffer c = c.loop-i.invariant.same
