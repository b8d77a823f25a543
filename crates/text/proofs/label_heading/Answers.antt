-- Four lines, one behind the other.
use Rattle.rules.specs.{Lineup.text, Lineup.line, LabelLines.label_heading}
use Rattle.text.specs.Written.{line_of}
use Rattle.text.proofs.Written.{then, counts}
use Rattle.text.proofs.label_heading.Goals as goal

pub returns : goal.returns
unfolding label_heading line_of line text
returns c =
    let w = then (then (then c.put-first.ensures c.put_line-second.ensures.1) c.put_version-third.ensures.1) c.put_line.ensures.1 in record {
      wrote = w;
      counts = counts w;
    }
