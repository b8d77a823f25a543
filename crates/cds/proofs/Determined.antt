-- Two outcomes that a promise of this crate allows are equal: what a record says, and the place behind so many of them or the refusal.
use seplogic.Ra.Ura.{Ura}
use base.Logic.{SProp, id⊢}
use contract.Monad.{Fun}
use types.Logic.{Logic}
use prog.Memory.{Memory}
use prog.Routine.{Routine}
use Rattle.rules.proofs.Determined.{Determined, determined-by, determined-once}
use mathlib.Core.Path.{sym, ◌∙◌}
use Rattle.rules.proofs.Refusals.{by_number-once}
use Rattle.fields.proofs.Laws.{stands-once}
use Rattle.cds.specs.contracts.outline
use Rattle.cds.specs.contracts.carriers_of
use Rattle.cds.specs.contracts.past_carriers

module _ {M : Type 1} {𝓤 : Ura M} (𝓛 : Logic 𝓤) (mem : Memory → SProp 𝓤) (run : Routine → Fun 𝓤) where
  pub outline-determined : Determined 𝓤 {T = outline.ended} (outline.clauses 𝓛 mem run) (λ κs r e. r)
  outline-determined =
      determined-once 𝓤 {T = outline.ended} (outline.clauses 𝓛 mem run) _ _ (λ κs a g r e. id⊢ 𝓤 _)
      (λ κs a g r r' e e' s t. by_number-once _ _ (s ∙ sym t))

  pub carriers_of-determined : Determined 𝓤 {T = carriers_of.ended} (carriers_of.clauses 𝓛 mem run) (λ κs r e. r)
  carriers_of-determined = determined-by 𝓤 {T = carriers_of.ended} (carriers_of.clauses 𝓛 mem run) _ _ (λ κs a g r e. id⊢ 𝓤 _)

  pub past_carriers-determined : Determined 𝓤 {T = past_carriers.ended} (past_carriers.clauses 𝓛 mem run) (λ κs r e. r)
  past_carriers-determined =
      determined-once 𝓤 {T = past_carriers.ended} (past_carriers.clauses 𝓛 mem run) _ _ (λ κs a g r e. id⊢ 𝓤 _)
      (λ κs a g r r' e e' s t. stands-once _ r r' _ s t)
