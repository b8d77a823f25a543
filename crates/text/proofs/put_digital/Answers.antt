-- The parts of the line, one behind the other.
use native.Mathlib.Omega.{arith}
use Rattle.rules.specs.Lineup.{text}
use Rattle.text.proofs.Written.{then, short}
use Rattle.text.specs.Written.{field_of}
use Rattle.text.proofs.put_digital.Goals as goal

pub returns : goal.returns
unfolding field_of text
returns c =
    short (then (then (then c.put_place-first.ensures.1 c.put_field-second.ensures.1) c.put_mode-third.ensures.1) c.put.ensures)
    (omega (arith, c.put_place-first.ensures.0, c.put_field-second.ensures.0, c.put_mode-third.ensures.0, c.put.ensures.behind))
