-- Without a header there is a refusal; with one the content is what comes behind it.
use mathlib.Core.Path.{◌≡◌, sym, ap, ◌∙◌}
use borrow.Author.Rules.{rules}
use Rattle.std.specs.Prelude.{Err}
use Rattle.rules.specs.Refusals.{by_number}
use Rattle.section.specs.Reads.{answered_as}
use Rattle.section.proofs.Whole.{shown-no, content-unheaded, content-headed}
use Rattle.section.proofs.content_of.Goals as goal

pub structured-requires : goal.structured-requires
structured-requires c = (content-headed _ _ (ap by_number (sym c.in_ok-header_of.was) ∙ c.header_of.ensures)).1

pub returns-in_err-header_of : goal.returns-in_err-header_of
returns-in_err-header_of c =
    let e : c.from_residual.result ≡ Err c.in_err-header_of.field-0.0 = search rules in
    rw e (shown-no _ _ _ (content-unheaded _ _ (ap by_number (sym c.in_err-header_of.was) ∙ c.header_of.ensures)))

pub returns : goal.returns
returns c =
    c.structured.ensures
    ∙ ap (answered_as _) (sym (content-headed _ _ (ap by_number (sym c.in_ok-header_of.was) ∙ c.header_of.ensures)).0)
