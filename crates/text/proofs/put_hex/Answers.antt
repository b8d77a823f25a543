-- After i turns the first i bytes are written.
use Prim.Native.Nat.{◌<◌}
use native.Mathlib.Omega.{arith}
use mathlib.Core.Path.{◌≡◌, refl, ◌∙◌}
use lib.ListN.{length}
use Rattle.text.proofs.{Written.short, Hex.hexed-0, Hex.hexed-at, Hex.hexed-more, Hex.hexed-all}
use Rattle.text.proofs.put_hex.Goals as goal

pub put_pair-next-requires : goal.put_pair-next-requires
put_pair-next-requires c =
    let l = c.loop-i in
    let more : l.i < length c.args.bytes.now = omega (arith, c.loop-i-test.true) in
    omega (arith, more, hexed-at c.args.bytes.now l.invariant.1 (omega (arith, more)), l.invariant.0, c.requires)

pub loop-i-preserved : goal.loop-i-preserved
loop-i-preserved c =
    let l = c.loop-i in
    let more : l.i < length c.args.bytes.now = omega (arith, c.loop-i-test.true) in
    (c.put_pair-next.auto.out ∙ l.invariant.0, hexed-more c.args.bytes.now l.invariant.1 more c.put_pair-next.ensures)

pub returns : goal.returns
returns c =
    let l = c.loop-i in
    let e : l.i ≡ length c.args.bytes.now = omega arith in
    short (hexed-all c.args.bytes.now l.invariant.1 e) (omega (arith, e, hexed-at c.args.bytes.now l.invariant.1 (omega (arith, e))))

pub loop-i-init : goal.loop-i-init
loop-i-init c = (refl, hexed-0 c.args.bytes.now (omega (arith, c.requires)))

pub shape_of-out : goal.shape_of-out
shape_of-out c = c.loop-i.invariant.0
