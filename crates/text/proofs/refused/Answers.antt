-- One text.
use Rattle.rules.specs.Lineup.{text}
use Rattle.text.proofs.Written.{counts}
use Rattle.text.proofs.refused.Goals as goal

pub returns : goal.returns
unfolding text
returns c = record {
  wrote = c.put.ensures;
  counts = counts c.put.ensures;
}
