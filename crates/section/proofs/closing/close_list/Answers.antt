-- What is met so far, with what the list from here on has, tells what the whole list tells.
use native.Mathlib.Omega.{arith}
use mathlib.Core.Path.{◌≡◌, sym, ap, ◌∙◌}
use Rattle.rules.specs.Bytes.{byte}
use Rattle.rules.specs.Section.{read}
use borrow.Author.Rules.{rules}
use Rattle.std.specs.Prelude.{Err}
use Rattle.fields.proofs.Laws.{at-no}
use Rattle.section.proofs.Lists.{here, close-begin, close-end, close-no, close-pass, close-seen}
use Rattle.section.proofs.closing.close_list.Goals as goal

pub loop-at-smaller-then-b-at : goal.loop-at-smaller-then-b-at
loop-at-smaller-then-b-at c =
    let h = here _ _ _ c.past_one.ensures _
    c.in_ok-next.was in omega arith

pub loop-at-preserved-then-b-at : goal.loop-at-preserved-then-b-at
unfolding byte
loop-at-preserved-then-b-at c =
    let h =
    here _ _ _ c.past_one.ensures _ c.in_ok-next.was in
    rw (c.seen_with-seen.ensures, c.byte.ensures)
    (c.loop-at.invariant ∙ close-seen _ _ _ _ h c.if-b-at.true)

pub loop-at-preserved : goal.loop-at-preserved
unfolding byte
loop-at-preserved c =
    let h = here _ _ _ c.past_one.ensures _ c.in_ok-next.was in
    c.loop-at.invariant ∙ close-pass _ _ _ _ h c.if-b-at.false

pub returns-in_err-next : goal.returns-in_err-next
unfolding read
returns-in_err-next c =
    let e : c.from_residual.result ≡ Err c.in_err-next.field-0.0 = search rules in
    rw e (sym (ap read (c.loop-at.invariant
    ∙ close-no _ _ _ c.loop-at-test.true _ (at-no _ _ _ c.past_one.ensures _ c.in_err-next.was))))

pub loop-at-init : goal.loop-at-init
loop-at-init c = close-begin _ _

pub overflow_add-at : goal.overflow_add-at
overflow_add-at c =
    let h = here _ _ _ c.past_one.ensures _ c.in_ok-next.was in omega arith

pub loop-at-smaller : goal.loop-at-smaller
loop-at-smaller c =
    let h = here _ _ _ c.past_one.ensures _ c.in_ok-next.was in omega arith

pub returns : goal.returns
returns c = c.judged.ensures ∙ ap read (sym (c.loop-at.invariant ∙ close-end _ _ _ (omega arith)))
