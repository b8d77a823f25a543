-- A digit, or a letter.
use Rattle.text.proofs.Hex.{low_digit, high_digit}
use Rattle.text.proofs.hex_digit.Goals as goal

pub returns-then-d-lt10 : goal.returns-then-d-lt10
returns-then-d-lt10 c = low_digit c.args.d c.if-d-lt10.true

pub returns : goal.returns
returns c = high_digit c.args.d c.if-d-lt10.false
