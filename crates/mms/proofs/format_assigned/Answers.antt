-- The rows that are searched are those of the rule.
use mathlib.Core.{Path.◌≡◌, Path.refl, Path.◌∙◌, Bool.true}
use borrow.Author.Rules.{rules}
use lib.Dec.{leb}
use Rattle.rules.specs.Tables.{among}
use Rattle.mms.proofs.Laws.{searched, agree, told}
use Rattle.mms.proofs.format_assigned.Goals as goal

pub returns : goal.returns
returns c =
    let agrees : agree (searched _ _ c.among.ensures) (λ x. leb x 24) ≡ true = unfold among in refl in
    c.among.ensures ∙ told _ (λ x. leb x 24) agrees c.args.x (search rules)
