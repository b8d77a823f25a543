-- The rows that are searched are those of the rule.
use mathlib.Core.{Path.◌≡◌, Path.refl, Path.◌∙◌, Bool.true}
use borrow.Author.Rules.{rules}
use Rattle.rules.specs.Tables.{among, inner_codings}
use Rattle.mms.proofs.Laws.{searched, agree, told}
use Rattle.mms.proofs.inner_assigned.Goals as goal

pub returns : goal.returns
returns c =
    let agrees : agree (searched _ _ c.among.ensures) (λ x. among x inner_codings) ≡ true = unfold among inner_codings in refl in
    c.among.ensures ∙ told _ (λ x. among x inner_codings) agrees c.args.x (search rules)
