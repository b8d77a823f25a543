-- What the whole walk leaves is what the walk over the descriptors that are still to come leaves.
use native.Mathlib.Omega.{arith}
use mathlib.Core.Path.{◌≡◌, sym, ◌∙◌}
use Prim.Native.Nat.{◌-◌, ◌+◌}
use borrow.Author.Rules.{rules}
use Rattle.std.specs.Prelude.{Err}
use Rattle.rules.specs.{Descriptors.passed}
use Rattle.fields.specs.Place.{left_of}
use Rattle.fields.proofs.Laws.{at_in, passed-turn, passed-stop}
use Rattle.fields.proofs.past_some.Goals as goal

pub loop-done-preserved : goal.loop-done-preserved
loop-done-preserved c =
    let l = c.loop-done in
    let one : c.args.count - (l.done + 1) ≡ c.args.count - l.done - 1 = omega arith in (
      at_in _ _ _ c.past_one.ensures _ c.in_ok-at.was,
      rw one (passed-turn _ _ _ c.past_one.ensures _ _ _ (omega arith) c.in_ok-at.was l.invariant.1),
    )

pub returns-in_err-at : goal.returns-in_err-at
returns-in_err-at c =
    let e : c.from_residual.result ≡ Err c.in_err-at.field-0.0 = search rules in
    rw e (record { means = passed-stop _ _ _ c.past_one.ensures _ _ _ (omega arith) c.in_err-at.was c.loop-done.invariant.1; within = tt })

pub returns : goal.returns
unfolding left_of passed
returns c =
    let l = c.loop-done in
    let none : c.args.count - l.done ≡ 0 = omega arith in
    record { means = sym (l.invariant.1 ∙ rw none); within = l.invariant.0 }
