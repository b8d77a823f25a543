-- The parts of the line, one behind the other.
use native.Mathlib.Omega.{arith}
use Rattle.rules.specs.{Lineup.text, Lineup.field, Lineup.line, LabelLines.label_line}
use Rattle.text.proofs.Written.{then, short}
use Rattle.text.specs.Written.{field_of}
use Rattle.text.proofs.label_line.Goals as goal

pub returns : goal.returns
unfolding label_line line field field_of text
returns c =
    short (then c.put_field-first.ensures.1 (then (then c.put-second.ensures c.put_hex-third.ensures.1) c.put.ensures))
    (omega (arith, c.put_field-first.ensures.0, c.put-second.ensures.behind, c.put_hex-third.ensures.0, c.put.ensures.behind, c.requires.1))
