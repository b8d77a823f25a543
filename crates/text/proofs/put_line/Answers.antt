-- A field and the end of a line.
use native.Mathlib.Omega.{arith}
use Rattle.rules.specs.Lineup.{text}
use Rattle.text.proofs.Written.{then, short}
use Rattle.text.specs.Written.{field_of, line_of}
use Rattle.text.proofs.put_line.Goals as goal

pub returns : goal.returns
unfolding line_of field_of text
returns c =
    short (then c.put_field-next.ensures.1 c.put.ensures) (omega (arith, c.put_field-next.ensures.0, c.put.ensures.behind))
