-- Two digits, one behind the other.
use Rattle.text.specs.Written.{hex_pair}
use Rattle.text.proofs.Written.{then}
use Rattle.text.proofs.put_pair.Goals as goal

pub returns : goal.returns
unfolding hex_pair
returns c =
    rw (c.hex_digit.ensures, c.hex_digit-2.ensures) at (then c.put_byte-next.ensures c.put_byte.ensures)
