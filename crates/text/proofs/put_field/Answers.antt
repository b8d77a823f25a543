-- A text and a number behind it, which has at most 20 digits.
use native.Mathlib.Omega.{arith}
use Rattle.text.specs.Written.{field_of}
use Rattle.text.proofs.Written.{then, short, decimal-short}
use Rattle.text.proofs.put_field.Goals as goal

pub put_number-requires : goal.put_number-requires
unfolding field_of
put_number-requires c = omega (arith, decimal-short c.args.n c.ranges.n.fits)

pub returns : goal.returns
unfolding field_of
returns c =
    short (then c.put-next.ensures c.put_number.ensures)
    (omega (arith, c.put-next.ensures.behind, c.put_number.ensures.behind, decimal-short c.args.n c.ranges.n.fits))
