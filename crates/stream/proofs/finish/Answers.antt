-- With nothing kept nothing is offered; else what is kept is the last section.
use mathlib.Core.Path.{sym, ◌∙◌}
use lib.ListN.{length}
use borrow.Author.Tests.{eqb-true, eqb-false}
use Rattle.stream.proofs.Laws.{nothing-kept, last-kept}
use Rattle.stream.proofs.finish.Goals as goal

pub returns : goal.returns
returns c =
    let a = c.args in
    last-kept a.t a.store.now a.kept.now _ (eqb-false (length a.kept.now) 0 (sym c.is_empty.ensures ∙ c.if-is_empty.false)) c.offer_one.ensures.store_after

pub returns-then-is_empty : goal.returns-then-is_empty
returns-then-is_empty c =
    let a = c.args in nothing-kept a.t a.store.now a.kept.now (eqb-true (length a.kept.now) 0 (sym c.is_empty.ensures ∙ c.if-is_empty.true))
