-- Not defined is 17, and without a record 18.
use mathlib.Core.Path.{sym, ◌∙◌}
use Rattle.rules.specs.Tuning.{look_up, needs}
use Rattle.tuner.proofs.Laws.{too-high, looked_up, channel}
use Rattle.tuner.proofs.Lookup.look_up.Goals as goal

pub returns-then-channel-gt4095 : goal.returns-then-channel-gt4095
returns-then-channel-gt4095 c = too-high _ _ _ c.args.self.now.checked c.if-channel-gt4095.true

pub returns-then-not-is_defined : goal.returns-then-not-is_defined
unfolding look_up needs
returns-then-not-is_defined c =
    rw (← c.if-not-is_defined.ensures) at (looked_up _ _ _ c.args.self.now.checked c.if-channel-gt4095.false)

pub returns-in-Some : goal.returns-in-Some
returns-in-Some c =
    c.tune_channel.ensures ∙ channel _ _ _ c.in-Some.ensures (sym c.if-not-is_defined.ensures)
    ∙ looked_up _ _ _ c.args.self.now.checked c.if-channel-gt4095.false

pub returns-in-None : goal.returns-in-None
returns-in-None c =
    channel _ _ _ c.in-None.ensures (sym c.if-not-is_defined.ensures) ∙ looked_up _ _ _ c.args.self.now.checked c.if-channel-gt4095.false
