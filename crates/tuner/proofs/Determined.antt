-- Two outcomes that a promise of this crate allows are equal: the refusal that goes for every channel, or that there is none, and what a
-- channel is tuned to or its refusal; of a look-up its state, its store and what it lists, whether a channel is
-- defined, and its record.
use seplogic.Ra.Ura.{Ura}
use base.Logic.{SProp, id⊢}
use contract.Monad.{Fun}
use types.Logic.{Logic}
use prog.Memory.{Memory}
use prog.Routine.{Routine}
use mathlib.Core.Path.{sym, ◌∙◌}
use Rattle.rules.proofs.Determined.{Determined, determined-by, determined-once, first_says, with_lent, answer-and-lent}
use Rattle.rules.proofs.Refusals.{by_number-once}
use Rattle.tuner.specs.contracts.check
use Rattle.tuner.specs.contracts.Lookup.unlisted
use Rattle.tuner.specs.contracts.Lookup.is_defined
use Rattle.tuner.specs.contracts.Lookup.find_channel
use Rattle.tuner.specs.contracts.Lookup.look_up
use Rattle.tuner.specs.contracts.tune

module _ {M : Type 1} {𝓤 : Ura M} (𝓛 : Logic 𝓤) (mem : Memory → SProp 𝓤) (run : Routine → Fun 𝓤) where
  pub check-determined : Determined 𝓤 {T = check.ended} (check.clauses 𝓛 mem run) (λ κs r e. r)
  check-determined =
      determined-once 𝓤 {T = check.ended} (check.clauses 𝓛 mem run) _ _ (λ κs a g r e. id⊢ 𝓤 _)
      (λ κs a g r r' e e' s t. by_number-once _ _ (s ∙ sym t))

  pub unlisted-determined : Determined 𝓤 {T = unlisted.ended} (unlisted.clauses 𝓛 mem run)
      (λ κs r e. with_lent r.state (with_lent r.store.now (with_lent r.ranges.now (with_lent r.channels.now
      (with_lent r.carriers.now r.modes.now)))))
  unlisted-determined =
      determined-by 𝓤 {T = unlisted.ended} (unlisted.clauses 𝓛 mem run) _ _
      (λ κs a g r e. answer-and-lent 𝓤 (id⊢ 𝓤 _) (answer-and-lent 𝓤 (id⊢ 𝓤 _) (answer-and-lent 𝓤 (id⊢ 𝓤 _) (answer-and-lent 𝓤 (id⊢ 𝓤 _)
      (answer-and-lent 𝓤 (id⊢ 𝓤 _) (id⊢ 𝓤 _))))))

  pub is_defined-determined : Determined 𝓤 {T = is_defined.ended} (is_defined.clauses 𝓛 mem run) (λ κs r e. r)
  is_defined-determined = determined-by 𝓤 {T = is_defined.ended} (is_defined.clauses 𝓛 mem run) _ _ (λ κs a g r e. id⊢ 𝓤 _)

  pub find_channel-determined : Determined 𝓤 {T = find_channel.ended} (find_channel.clauses 𝓛 mem run) (λ κs r e. r)
  find_channel-determined = determined-by 𝓤 {T = find_channel.ended} (find_channel.clauses 𝓛 mem run) _ _ (λ κs a g r e. id⊢ 𝓤 _)

  pub look_up-determined : Determined 𝓤 {T = look_up.ended} (look_up.clauses 𝓛 mem run) (λ κs r e. r)
  look_up-determined =
      determined-once 𝓤 {T = look_up.ended} (look_up.clauses 𝓛 mem run) _ _ (λ κs a g r e. id⊢ 𝓤 _)
      (λ κs a g r r' e e' s t. by_number-once _ _ (s ∙ sym t))

  pub tune-determined : Determined 𝓤 {T = tune.ended} (tune.clauses 𝓛 mem run) (λ κs r e. r)
  tune-determined =
      determined-once 𝓤 {T = tune.ended} (tune.clauses 𝓛 mem run) _ _ (λ κs a g r e. first_says 𝓤 (id⊢ 𝓤 _) (id⊢ 𝓤 _))
      (λ κs a g r r' e e' s t. by_number-once _ _ (s ∙ sym t))
