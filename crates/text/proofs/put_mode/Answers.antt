-- The coding and two fields, one behind the other.
use native.Mathlib.Omega.{arith}
use Rattle.rules.specs.Lineup.{text, field, mode_fields}
use Rattle.text.proofs.Written.{then, short}
use Rattle.text.specs.Written.{field_of, coding_fields}
use Rattle.text.proofs.put_mode.Goals as goal

pub returns : goal.returns
unfolding mode_fields field coding_fields field_of text
returns c =
    short (then (then c.put_coding-first.ensures.1 c.put_field-second.ensures.1) c.put_field.ensures.1)
    (omega (arith, c.put_coding-first.ensures.0, c.put_field-second.ensures.0, c.put_field.ensures.0))
