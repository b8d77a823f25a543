use Prim.Native.Nat.{◌-◌}
use Rattle.fields.specs.Place.{Reaches}
use Rattle.fields.proofs.records.past_records.Given as goal

abbrev pub invariant-loop-done : goal.invariant-loop-done
invariant-loop-done g l =
    Reaches (g.R.Records.layout l.rows) l.b l.initial.reached.at l.initial.reached.index l.done-end
    l.reached.at l.reached.index (l.done-end - l.done)
