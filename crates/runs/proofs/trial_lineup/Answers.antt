-- The two parts of the line-up, in the buffer.
use lib.ListN.{take}
use Rattle.receiver.proofs.Laws.{fresh-store}
use Rattle.runs.proofs.Laws.{as-text}
use Rattle.runs.proofs.trial_lineup.Goals as goal

pub returns : goal.returns
returns c =
    let a = c.args in
    let t = c.line_up-printed in
    let both = as-text (take t.result.heading t.new.heading) (take t.result.lines t.new.lines) a.out.now t.ensures.lines_after
    (c.put_both.ensures.value, c.put_both.ensures.out_after) in
    record { value = both.0; out_after = both.1 }

pub line_up-printed-requires : goal.line_up-printed-requires
line_up-printed-requires c = fresh-store _
