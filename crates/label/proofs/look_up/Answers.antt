-- The name of the channel's record.
use Rattle.label.proofs.Laws.{recorded}
use Rattle.label.proofs.look_up.Goals as goal

pub returns-in-Some-clause-value : goal.returns-in-Some-clause-value
returns-in-Some-clause-value c =
    let u = c.unlisted-lookup.ensures in
    let there = rw (u.of_state, u.of_store) at c.if-not-is_defined.ensures in
    let found = rw (u.of_state, u.of_store) at c.in-Some.ensures in
    recorded _ _ _ c.requires c.if-channel-gt4095.false there found c.first_name.ensures.value
