-- Two outcomes that a promise of this crate allows are equal: the answer with the state in it, or the refusal, and every byte of the store.
use seplogic.Ra.Ura.{Ura}
use base.Logic.{SProp, id⊢}
use contract.Monad.{Fun}
use types.Logic.{Logic}
use prog.Memory.{Memory}
use prog.Routine.{Routine}
use mathlib.Core.Path.{sym, ◌∙◌}
use Rattle.rules.proofs.Determined.{Determined, determined-by, determined-once, with_lent, both_say, first_says}
use Rattle.rules.proofs.Refusals.{outcome-once}
use Rattle.receiver.specs.contracts.start
use Rattle.receiver.specs.contracts.offer

module _ {M : Type 1} {𝓤 : Ura M} (𝓛 : Logic 𝓤) (mem : Memory → SProp 𝓤) (run : Routine → Fun 𝓤) where
  pub start-determined : Determined 𝓤 {T = start.ended} (start.clauses 𝓛 mem run) (λ κs r e. r)
  start-determined = determined-by 𝓤 {T = start.ended} (start.clauses 𝓛 mem run) _ _ (λ κs a g r e. id⊢ 𝓤 _)

  pub offer-determined : Determined 𝓤 {T = offer.ended} (offer.clauses 𝓛 mem run) (λ κs r e. with_lent r e.1.0.now)
  offer-determined =
      determined-once 𝓤 {T = offer.ended} (offer.clauses 𝓛 mem run) _ _
      (λ κs a g r e. both_say 𝓤 (id⊢ 𝓤 _) (first_says 𝓤 (id⊢ 𝓤 _) (id⊢ 𝓤 _)))
      (λ κs a g r r' e e' s t. rw (outcome-once _ r r' (s.0 ∙ sym t.0), s.1 ∙ sym t.1))
