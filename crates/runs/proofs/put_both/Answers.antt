-- The two parts of a text, one behind the other, where both have room.
use native.Mathlib.Omega.{arith}
use Rattle.runs.proofs.Laws.{no_room, both-put}
use Rattle.runs.proofs.put_both.Goals as goal

pub returns-then-out-behind : goal.returns-then-out-behind
returns-then-out-behind c =
    let a = c.args in
    let both = no_room a.out.now a.heading.now a.lines.now (omega (arith, c.if-out-behind.true)) in
    record { value = both.0; out_after = both.1 }

pub returns-then-out-behind-2 : goal.returns-then-out-behind-2
returns-then-out-behind-2 c =
    let a = c.args in
    let both = no_room a.out.now a.heading.now a.lines.now (omega (arith, c.if-out-behind-2.true, c.if-out-behind.false)) in
    record { value = both.0; out_after = both.1 }

pub returns : goal.returns
returns c =
    let a = c.args in
    let both = both-put a.out.now a.heading.now a.lines.now _ _ (omega (arith, c.if-out-behind-2.false, c.if-out-behind.false)) c.put.ensures c.put-2.ensures in
    record { value = both.0; out_after = both.1 }
