-- Two outcomes that a promise of this crate allows are equal: what the head and a channel record say, and the place behind so many or the
-- refusal.
use seplogic.Ra.Ura.{Ura}
use base.Logic.{SProp, id⊢}
use contract.Monad.{Fun}
use types.Logic.{Logic}
use prog.Memory.{Memory}
use prog.Routine.{Routine}
use Rattle.rules.proofs.Determined.{Determined, determined-by, determined-once}
use mathlib.Core.Path.{sym, ◌∙◌}
use Rattle.rules.proofs.Refusals.{by_number-once}
use Rattle.fields.proofs.Laws.{stands-once}
use Rattle.vcm.specs.contracts.outline
use Rattle.vcm.specs.contracts.number_of
use Rattle.vcm.specs.contracts.channel_of
use Rattle.vcm.specs.contracts.past_channels

module _ {M : Type 1} {𝓤 : Ura M} (𝓛 : Logic 𝓤) (mem : Memory → SProp 𝓤) (run : Routine → Fun 𝓤) where
  pub outline-determined : Determined 𝓤 {T = outline.ended} (outline.clauses 𝓛 mem run) (λ κs r e. r)
  outline-determined =
      determined-once 𝓤 {T = outline.ended} (outline.clauses 𝓛 mem run) _ _ (λ κs a g r e. id⊢ 𝓤 _)
      (λ κs a g r r' e e' s t. by_number-once _ _ (s ∙ sym t))

  pub number_of-determined : Determined 𝓤 {T = number_of.ended} (number_of.clauses 𝓛 mem run) (λ κs r e. r)
  number_of-determined = determined-by 𝓤 {T = number_of.ended} (number_of.clauses 𝓛 mem run) _ _ (λ κs a g r e. id⊢ 𝓤 _)

  pub channel_of-determined : Determined 𝓤 {T = channel_of.ended} (channel_of.clauses 𝓛 mem run) (λ κs r e. r)
  channel_of-determined = determined-by 𝓤 {T = channel_of.ended} (channel_of.clauses 𝓛 mem run) _ _ (λ κs a g r e. id⊢ 𝓤 _)

  pub past_channels-determined : Determined 𝓤 {T = past_channels.ended} (past_channels.clauses 𝓛 mem run) (λ κs r e. r)
  past_channels-determined =
      determined-once 𝓤 {T = past_channels.ended} (past_channels.clauses 𝓛 mem run) _ _ (λ κs a g r e. id⊢ 𝓤 _)
      (λ κs a g r r' e e' s t. stands-once _ r r' _ s t)
