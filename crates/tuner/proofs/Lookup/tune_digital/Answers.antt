-- Without a record of the mode it is 21.
use Rattle.tuner.proofs.Laws.{digital}
use Rattle.tuner.proofs.Lookup.tune_digital.Goals as goal

pub returns-in-Some : goal.returns-in-Some
returns-in-Some c = rw c.hidden.ensures (digital _ _ _ _ _ _ c.in-Some.ensures c.if-reference-eq0.false)

pub returns-in-None : goal.returns-in-None
returns-in-None c = digital _ _ _ _ _ _ c.in-None.ensures c.if-reference-eq0.false
