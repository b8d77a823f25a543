-- Two outcomes that a promise of this crate allows are equal: what the head and a range byte say, and the place behind so many or the
-- refusal.
use seplogic.Ra.Ura.{Ura}
use base.Logic.{SProp, id⊢}
use contract.Monad.{Fun}
use types.Logic.{Logic}
use prog.Memory.{Memory}
use prog.Routine.{Routine}
use Rattle.rules.proofs.Determined.{Determined, determined-by, determined-once}
use mathlib.Core.Path.{sym, ◌∙◌}
use Rattle.rules.proofs.Refusals.{by_number-once}
use Rattle.fields.proofs.Laws.{stands-once}
use Rattle.dcm.specs.contracts.outline
use Rattle.dcm.specs.contracts.range_of
use Rattle.dcm.specs.contracts.past_ranges

module _ {M : Type 1} {𝓤 : Ura M} (𝓛 : Logic 𝓤) (mem : Memory → SProp 𝓤) (run : Routine → Fun 𝓤) where
  pub outline-determined : Determined 𝓤 {T = outline.ended} (outline.clauses 𝓛 mem run) (λ κs r e. r)
  outline-determined =
      determined-once 𝓤 {T = outline.ended} (outline.clauses 𝓛 mem run) _ _ (λ κs a g r e. id⊢ 𝓤 _)
      (λ κs a g r r' e e' s t. by_number-once _ _ (s ∙ sym t))

  pub range_of-determined : Determined 𝓤 {T = range_of.ended} (range_of.clauses 𝓛 mem run) (λ κs r e. r)
  range_of-determined = determined-by 𝓤 {T = range_of.ended} (range_of.clauses 𝓛 mem run) _ _ (λ κs a g r e. id⊢ 𝓤 _)

  pub past_ranges-determined : Determined 𝓤 {T = past_ranges.ended} (past_ranges.clauses 𝓛 mem run) (λ κs r e. r)
  past_ranges-determined =
      determined-once 𝓤 {T = past_ranges.ended} (past_ranges.clauses 𝓛 mem run) _ _ (λ κs a g r e. id⊢ 𝓤 _)
      (λ κs a g r r' e e' s t. stands-once _ r r' _ s t)
