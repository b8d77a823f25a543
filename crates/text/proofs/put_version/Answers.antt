-- Where the table is live its version is the number of the line; else the line says none.
use native.Mathlib.Omega.{arith}
use Rattle.rules.specs.Lineup.{text}
use Rattle.text.proofs.{Written.then, Written.short, Lines.is_live, Lines.is-not-live}
use Rattle.text.proofs.put_version.Goals as goal

pub returns-then-live-eq1 : goal.returns-then-live-eq1
unfolding text
returns-then-live-eq1 c =
    short (is_live c.args.key.now c.args.live c.if-live-eq1.true c.put_line.ensures.1) c.put_line.ensures.0

pub returns : goal.returns
unfolding text
returns c =
    short (is-not-live c.args.key.now c.args.live c.if-live-eq1.false (then c.put-next.ensures c.put.ensures))
    (omega (arith, c.put-next.ensures.behind, c.put.ensures.behind))
