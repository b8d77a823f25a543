-- Each stage refuses with its number, or hands on where the next begins; the closing list has the bytes that are left, so its place is known.
use native.Mathlib.Omega.{arith}
use mathlib.Core.Path.{◌≡◌, sym, ap, ◌∙◌}
use borrow.Author.Rules.{rules}
use Rattle.std.specs.Prelude.{Err}
use Rattle.rules.specs.Refusals.{by_number}
use Rattle.fields.proofs.{Laws.at_in, Laws.at-got, Laws.at-no, Outlines.no-area, Outlines.an-area}
use Rattle.section.proofs.Whole.{shown-no, unfronted, unread, unclosed, read_right}
use Rattle.section.proofs.structured.Goals as goal

pub returns-in_err-outline : goal.returns-in_err-outline
returns-in_err-outline c =
    let e : c.from_residual.result ≡ Err c.in_err-outline.field-0.0 = search rules in
    rw e (shown-no _ _ _ (unfronted _ _ _ (no-area _ _ (omega arith) c.outline_of.ensures c.in_err-outline.was)))

pub returns-in_err-closing : goal.returns-in_err-closing
returns-in_err-closing c =
    let a = an-area _ _ (omega arith) c.outline_of.ensures c.in_ok-outline.was in
    let e : c.from_residual-in_err-closing.result ≡ Err c.in_err-closing.field-0.0 = search rules in
    rw e (shown-no _ _ _ (unread _ _ _ a _ (at-no _ _ _ c.past_records.ensures _ c.in_err-closing.was)))

pub returns-in_err-revision : goal.returns-in_err-revision
returns-in_err-revision c =
    let a = an-area _ _ (omega arith) c.outline_of.ensures c.in_ok-outline.was in
    let r = at-got _ _ _ c.past_records.ensures _ c.in_ok-closing.was in
    let e : c.from_residual-in_err-revision.result ≡ Err c.in_err-revision.field-0.0 = search rules in
    rw e (shown-no _ _ _ (unclosed _ _ _ a _ _ r.1 _ (ap by_number (sym c.in_err-revision.was) ∙ c.close.ensures)))

pub returns : goal.returns
returns c =
    let a = an-area _ _ (omega arith) c.outline_of.ensures c.in_ok-outline.was in
    let s = c.past_records.ensures in
    let e = c.in_ok-closing.was in
    read_right _ _ _ a _ _ (at-got _ _ _ s _ e).1 (at_in _ _ _ s _ e) _ (ap by_number (sym c.in_ok-revision.was) ∙ c.close.ensures) _
    c.language_of.ensures
