-- After each turn the lines of the channels below are written and counted.
use native.Mathlib.Omega.{arith}
use mathlib.Core.Path.{◌≡◌, refl, ◌∙◌}
use Rattle.printout.proofs.Laws.{below-0, room-for-one, below_more}
use Rattle.printout.proofs.listed_lines.Goals as goal

pub loop-number-init : goal.loop-number-init
loop-number-init g c = (refl, below-0 _ _ c.args.out.now)

pub add_line-lines-requires : goal.add_line-lines-requires
add_line-lines-requires g c =
    let l = c.loop-number.invariant in
    (room-for-one l.1 c.loop-number-test.true (l.0 ∙ c.requires), l.1.few)

pub loop-number-preserved : goal.loop-number-preserved
loop-number-preserved g c =
    let l = c.loop-number.invariant in (
      c.add_line-lines.auto.out ∙ l.0,
      below_more l.1 c.add_line-lines.ensures,
    )

pub returns : goal.returns
returns g c =
    let l = c.loop-number in
    let e : l.number ≡ 4096 = omega (arith, c.loop-number-test.false, l.auto.number-end) in
    rw e at l.invariant.1

pub shape_of-out : goal.shape_of-out
shape_of-out g c = c.loop-number.invariant.0
