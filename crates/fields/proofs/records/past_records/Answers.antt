-- What the whole walk leaves is what the walk over the records that are still to come leaves, at the index reached.
use native.Mathlib.Omega.{arith}
use Prim.Native.Nat.{◌+◌, ◌-◌}
use mathlib.Core.Path.{◌≡◌}
use borrow.Author.Rules.{rules}
use Rattle.std.specs.Prelude.{Err}
use Rattle.fields.proofs.Walks.{none, turn, stop, end, joined}
use Rattle.fields.proofs.records.past_records.Goals as goal

pub returns-then-o-eq0 : goal.returns-then-o-eq0
returns-then-o-eq0 g c = none (g.R.Records.layout c.args.rows.now) _ _ c.if-o-eq0.true c.past_counted.ensures

pub loop-done-preserved : goal.loop-done-preserved
loop-done-preserved g c =
    let one : c.skim-plain.result.count - (c.loop-done.done + 1) ≡ c.skim-plain.result.count - c.loop-done.done - 1 = omega arith in
    rw one (turn (g.R.Records.layout c.args.rows.now) c.loop-done.invariant (omega arith) c.in_ok-reached.ensures (omega arith))

pub returns-in_err-reached : goal.returns-in_err-reached
returns-in_err-reached g c =
    let q : c.from_residual.result ≡ Err c.in_err-reached.field-0.0 = search rules in
    rw q (joined (g.R.Records.layout c.args.rows.now) c.skim-plain.ensures
    (stop (g.R.Records.layout c.args.rows.now) c.loop-done.invariant (omega arith) c.in_err-reached.ensures))

pub returns : goal.returns
returns g c =
    joined (g.R.Records.layout c.args.rows.now) c.skim-plain.ensures
    (end (g.R.Records.layout c.args.rows.now) c.loop-done.invariant (omega arith))
