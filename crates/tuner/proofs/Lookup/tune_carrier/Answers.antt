-- Without a carrier it is 19.
use mathlib.Core.Path.{◌∙◌}
use Rattle.tuner.proofs.Laws.{carrier}
use Rattle.tuner.proofs.Lookup.tune_carrier.Goals as goal

pub returns-in-Some : goal.returns-in-Some
returns-in-Some c = c.tune_khz.ensures ∙ carrier _ _ _ c.in-Some.ensures c.if-c-eq0.false

pub returns-in-None : goal.returns-in-None
returns-in-None c = carrier _ _ _ c.in-None.ensures c.if-c-eq0.false
