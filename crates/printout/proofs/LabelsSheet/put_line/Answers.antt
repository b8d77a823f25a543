-- Where the line-up has no line nothing is written; else the label's line, and a name has at most 255 bytes.
use native.Mathlib.Omega.{arith}
use Rattle.text.proofs.Written.{short}
use Rattle.printout.specs.Lines.{box_of, longest}
use Rattle.printout.proofs.Laws.{no_label, some-label, of_label}
use Rattle.printout.proofs.LabelsSheet.put_line.Goals as goal

pub returns-then-lines_of-eq0 : goal.returns-then-lines_of-eq0
unfolding box_of longest
returns-then-lines_of-eq0 c =
    let f = c.args.found.now in
    let b = box_of f.state f.store.now in
    let p = c.requires in
    of_label b c.args.number
    (short (no_label b c.args.number p.tuned_value c.lines_of.ensures c.if-lines_of-eq0.true (omega (arith, p.labels_in_bounds))) (omega arith))

pub label_line-requires : goal.label_line-requires
unfolding longest
label_line-requires c =
    (c.requires.labels_in_bounds, c.label-label.ensures.result_len_bound (omega arith))

pub returns : goal.returns
unfolding box_of
returns c =
    let f = c.args.found.now in
    let b = box_of f.state f.store.now in
    of_label b c.args.number
    (short (some-label b c.args.number c.requires.tuned_value c.lines_of.ensures c.if-lines_of-eq0.false
    c.label-label.ensures.result_value c.label_line.ensures.1)
    c.label_line.ensures.0)
