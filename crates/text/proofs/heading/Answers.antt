-- The three groups of lines, one behind the other.
use Rattle.rules.specs.Lineup.{text, line, heading}
use Rattle.text.specs.Written.{line_of, count_lines}
use Rattle.text.proofs.Written.{then, counts}
use Rattle.text.proofs.heading.Goals as goal

pub returns : goal.returns
unfolding heading count_lines line_of line text
returns c = record {
  wrote = then (then c.put_counts-counts.ensures.1 c.put_versions-versions.ensures.1) c.put_line.ensures.1;
  counts = counts c.put_line.ensures.1;
}
