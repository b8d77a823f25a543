use mathlib.Core.Path.{◌≡◌}
use lib.ListN.{length}
use Rattle.printout.specs.Lines.{box_of, line_of, longest, Below}
use Rattle.printout.proofs.listed_lines.Given as goal

abbrev pub invariant-loop-number : goal.invariant-loop-number
invariant-loop-number g l =
    (length l.out ≡ length l.initial.out)
    × Below (longest g.S.Sheet.labels) (line_of g.S.Sheet.labels (box_of l.found.state l.found.store.now)) l.number l.initial.out l.out l.lines
