-- Three fields, one behind the other.
use native.Mathlib.Omega.{arith}
use Rattle.rules.specs.Lineup.{text}
use Rattle.text.proofs.Written.{then, short}
use Rattle.text.specs.Written.{field_of, coding_fields}
use Rattle.text.proofs.put_coding.Goals as goal

pub returns : goal.returns
unfolding coding_fields field_of text
returns c =
    short (then (then c.put_field-first.ensures.1 c.put_field-second.ensures.1) c.put_field.ensures.1)
    (omega (arith, c.put_field-first.ensures.0, c.put_field-second.ensures.0, c.put_field.ensures.0))
