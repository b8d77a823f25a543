-- The table number decides where the byte stands.
use mathlib.Core.Path.{sym, ◌∙◌}
use native.Mathlib.Omega.{arith}
use Rattle.section.proofs.Headers.{medium-low, medium-names, medium-other}
use Rattle.section.proofs.header.medium_at.Goals as goal

pub returns-in-194 : goal.returns-in-194
returns-in-194 c = sym (medium-low _ (sym c.byte.ensures ∙ c.in-194.is))

pub returns-in-195 : goal.returns-in-195
returns-in-195 c = sym (medium-names _ (sym c.byte.ensures ∙ c.in-195.is))

pub returns-in_default : goal.returns-in_default
returns-in_default c =
    let e = c.byte.ensures in
    sym (medium-other _ (λ q. omega (arith, e, q)) (λ q. omega (arith, e, q)))
