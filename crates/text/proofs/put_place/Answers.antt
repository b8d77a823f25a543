-- The front of a line and a field.
use native.Mathlib.Omega.{arith}
use Rattle.rules.specs.Lineup.{text}
use Rattle.text.proofs.Written.{then, short}
use Rattle.text.specs.Written.{field_of, khz_front}
use Rattle.text.proofs.put_place.Goals as goal

pub returns : goal.returns
unfolding khz_front field_of text
returns c =
    short (then c.put_front-next.ensures.1 c.put_field.ensures.1) (omega (arith, c.put_front-next.ensures.0, c.put_field.ensures.0))
