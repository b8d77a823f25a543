-- The two parts of the labels, in the buffer.
use lib.ListN.{take}
use Rattle.receiver.proofs.Laws.{fresh-store}
use Rattle.runs.proofs.Laws.{as-text}
use Rattle.runs.proofs.trial_labels.Goals as goal

pub returns : goal.returns
returns c =
    let a = c.args in
    let t = c.labels_of-printed in
    let both = as-text (take t.result.heading t.new.heading) (take t.result.lines t.new.lines) a.out.now t.ensures.lines_after
    (c.put_both.ensures.value, c.put_both.ensures.out_after) in
    record { value = both.0; out_after = both.1 }

pub labels_of-printed-requires : goal.labels_of-printed-requires
labels_of-printed-requires c = fresh-store _
