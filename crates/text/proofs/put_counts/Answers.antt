-- Four lines, one behind the other.
use native.Mathlib.Omega.{arith}
use Rattle.rules.specs.Lineup.{text}
use Rattle.text.proofs.Written.{then, short}
use Rattle.text.specs.Written.{count_lines}
use Rattle.text.proofs.put_counts.Goals as goal

pub returns : goal.returns
unfolding count_lines text
returns c =
    short (then (then (then c.put-first.ensures c.put_line-second.ensures.1) c.put_line-third.ensures.1) c.put_line.ensures.1)
    (omega (arith, c.put-first.ensures.behind, c.put_line-second.ensures.0, c.put_line-third.ensures.0, c.put_line.ensures.0))
