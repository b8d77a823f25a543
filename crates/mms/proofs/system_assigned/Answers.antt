-- The rows that are searched are those of the rule.
use mathlib.Core.{Path.◌≡◌, Path.refl, Path.◌∙◌, Bool.true}
use borrow.Author.Rules.{rules}
use Rattle.rules.specs.Tables.{among, systems}
use Rattle.mms.proofs.Laws.{searched, agree, told}
use Rattle.mms.proofs.system_assigned.Goals as goal

pub returns : goal.returns
returns c =
    let agrees : agree (searched _ _ c.among.ensures) (λ x. among x systems) ≡ true = unfold among systems in refl in
    c.among.ensures ∙ told _ (λ x. among x systems) agrees c.args.x (search rules)
