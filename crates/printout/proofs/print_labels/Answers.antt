-- As the line-up is printed.
use borrow.Author.Rules.{rules}
use Rattle.rules.specs.LabelLines.{label_lines_of}
use Rattle.printout.specs.Lines.{label_heading_of, line_of, longest, lines_in}
use Rattle.printout.proofs.print_labels.Goals as goal

pub channel_lines-written-requires : goal.channel_lines-written-requires
unfolding longest
channel_lines-written-requires c = search rules

pub returns : goal.returns
unfolding label_heading_of label_lines_of lines_in line_of
returns c =
    let l = c.channel_lines-written.ensures in
    let h = c.label_heading-size.ensures in record {
      wrote = rw l.count_value at h.wrote;
      wrote_2 = l.wrote;
      counts = h.counts;
      counts_2 = l.counts;
    }
