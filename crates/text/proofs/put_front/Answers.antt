-- A field, a text and two fields, one behind the other.
use native.Mathlib.Omega.{arith}
use Rattle.rules.specs.Lineup.{text}
use Rattle.text.proofs.Written.{then, short}
use Rattle.text.specs.Written.{field_of, front_of}
use Rattle.text.proofs.put_front.Goals as goal

pub returns : goal.returns
unfolding front_of field_of text
returns c =
    short (then (then (then c.put_field-first.ensures.1 c.put-second.ensures) c.put_field-third.ensures.1)
    c.put_field.ensures.1) (omega (arith, c.put_field-first.ensures.0, c.put-second.ensures.behind, c.put_field-third.ensures.0, c.put_field.ensures.0))
