-- At each turn what is left of the records leaves what all of them leave.
use native.Mathlib.Omega.{arith}
use Rattle.fields.proofs.Walks.{turn}
use Rattle.fields.proofs.records.skim.Goals as goal

pub loop-reached-preserved : goal.loop-reached-preserved
loop-reached-preserved g c =
    turn (g.R.Records.layout c.args.rows.now) c.loop-reached.invariant c.loop-reached-test.true c.in-Some.ensures (omega arith)
