-- A range gives each number below its end, and of the first that does not read right the answer is false.
use Rattle.std.proofs.Common.{rules, ◌+◌}
use Rattle.std.proofs.iter.runs.Sources.{ranges}
use Rattle.rules.specs.Tuning.{live_count, place_reads, table_reads}
use Rattle.state.proofs.Reading.{every_answer}
use Rattle.state.proofs.table_reads.Goals as goal

pub returns : goal.returns
unfolding live_count table_reads
returns c =
    let a = c.args in
    let reads = place_reads a.s a.store.now a.t in
    rw (← c.holding_of.ensures)
    (every_answer (c.holding_of.result.live.last + 1) reads c.all.result (λ e xs k i lt. search (rules, ranges)) (λ e. search (rules, ranges)))
