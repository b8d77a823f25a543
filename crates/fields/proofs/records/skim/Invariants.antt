use Rattle.fields.specs.Place.{Reaches}
use Rattle.fields.proofs.records.skim.Given as goal

abbrev pub invariant-loop-reached : goal.invariant-loop-reached
invariant-loop-reached g l =
    Reaches (g.R.Records.layout l.rows) l.b l.initial.reached.at l.initial.reached.first l.initial.reached.count l.reached.at l.reached.first l.reached.count

abbrev pub decreases-loop-reached : goal.decreases-loop-reached
decreases-loop-reached g l = l.reached.count
