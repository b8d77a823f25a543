-- The look-up is the rule's tuning, its line is written behind the others, and it is one at most.
use native.Mathlib.Omega.{arith}
use Rattle.rules.specs.Refusals.{by_number}
use Rattle.printout.specs.Lines.{box_of}
use Rattle.printout.proofs.Laws.{added, one_line}
use Rattle.printout.proofs.add_line.Goals as goal

pub overflow_add-result : goal.overflow_add-result
overflow_add-result g c =
    omega (arith, c.lines_of-more.ensures, one_line c.args.number (by_number c.look_up-tuned.result), c.requires.1, c.ranges.number)

pub returns : goal.returns
unfolding box_of
returns g c =
    let w = c.put_line-size.ensures in
    let f = c.args.found.now in
    added g.S.Sheet.labels (box_of f.state f.store.now) c.args.number c.look_up-tuned.ensures w.1 w.0 c.lines_of-more.ensures
