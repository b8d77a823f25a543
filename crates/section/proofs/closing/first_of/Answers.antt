-- What the search from the start finds is what the search from here on finds.
use native.Mathlib.Omega.{arith}
use mathlib.Core.Path.{refl, sym, ◌∙◌}
use borrow.Author.Rules.{rules}
use Rattle.rules.specs.{Bytes.byte}
use Rattle.fields.proofs.Laws.{at-no}
use Rattle.section.proofs.Lists.{here, first-end, first-never, first-here, first-pass, listed-on}
use Rattle.section.proofs.closing.first_of.Goals as goal

pub returns-then-b-at : goal.returns-then-b-at
unfolding byte
returns-then-b-at c =
    let l = c.loop-at in
    let h = here _ _ _ c.past_one.ensures _ c.in_ok-next.was in
    rw c.byte.ensures (sym (l.invariant.1 ∙ first-here _ _ _ _ h l.invariant.0 c.if-b-at.true))

pub loop-at-preserved : goal.loop-at-preserved
unfolding byte
loop-at-preserved c =
    let l = c.loop-at in
    let h = here _ _ _ c.past_one.ensures _ c.in_ok-next.was in
    (listed-on _ _ _ h l.invariant.0, l.invariant.1 ∙ first-pass _ _ _ _ h l.invariant.0 c.if-b-at.false)

pub returns-in_err-next : goal.returns-in_err-next
returns-in_err-next c =
    absurd (first-never _ _ c.loop-at-test.true _ (at-no _ _ _ c.past_one.ensures _ c.in_err-next.was)
    c.loop-at.invariant.0)

pub loop-at-init : goal.loop-at-init
loop-at-init c = (search rules, refl)

pub overflow_add-result : goal.overflow_add-result
overflow_add-result c =
    let h = here _ _ _ c.past_one.ensures _ c.in_ok-next.was in omega arith

pub loop-at-smaller : goal.loop-at-smaller
loop-at-smaller c =
    let h = here _ _ _ c.past_one.ensures _ c.in_ok-next.was in omega arith

pub returns : goal.returns
returns c = sym (c.loop-at.invariant.1 ∙ first-end _ _ _ (omega arith))
