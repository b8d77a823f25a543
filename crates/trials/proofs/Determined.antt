-- Two outcomes that a promise of this crate allows are equal: the part asked for, and every byte that was lent to be written.
use seplogic.Ra.Ura.{Ura}
use base.Logic.{SProp, id⊢}
use contract.Monad.{Fun}
use types.Logic.{Logic}
use prog.Memory.{Memory}
use prog.Routine.{Routine}
use Rattle.rules.proofs.Determined.{Determined, determined-by, with_lent, answer-and-lent}
use Rattle.trials.specs.contracts.trial_start
use Rattle.trials.specs.contracts.trial_offer
use Rattle.trials.specs.contracts.trial_check
use Rattle.trials.specs.contracts.trial_tune
use Rattle.trials.specs.contracts.trial_label
use Rattle.trials.specs.contracts.trial_shown

module _ {M : Type 1} {𝓤 : Ura M} (𝓛 : Logic 𝓤) (mem : Memory → SProp 𝓤) (run : Routine → Fun 𝓤) where
  pub trial_start-determined : Determined 𝓤 {T = trial_start.ended} (trial_start.clauses 𝓛 mem run) (λ κs r e. r)
  trial_start-determined = determined-by 𝓤 {T = trial_start.ended} (trial_start.clauses 𝓛 mem run) _ _ (λ κs a g r e. id⊢ 𝓤 _)

  pub trial_offer-determined : Determined 𝓤 {T = trial_offer.ended} (trial_offer.clauses 𝓛 mem run) (λ κs r e. with_lent r e.1.0.now)
  trial_offer-determined =
      determined-by 𝓤 {T = trial_offer.ended} (trial_offer.clauses 𝓛 mem run) _ _ (λ κs a g r e. answer-and-lent 𝓤 (id⊢ 𝓤 _) (id⊢ 𝓤 _))

  pub trial_check-determined : Determined 𝓤 {T = trial_check.ended} (trial_check.clauses 𝓛 mem run) (λ κs r e. r)
  trial_check-determined = determined-by 𝓤 {T = trial_check.ended} (trial_check.clauses 𝓛 mem run) _ _ (λ κs a g r e. id⊢ 𝓤 _)

  pub trial_tune-determined : Determined 𝓤 {T = trial_tune.ended} (trial_tune.clauses 𝓛 mem run) (λ κs r e. r)
  trial_tune-determined = determined-by 𝓤 {T = trial_tune.ended} (trial_tune.clauses 𝓛 mem run) _ _ (λ κs a g r e. id⊢ 𝓤 _)

  pub trial_label-determined : Determined 𝓤 {T = trial_label.ended} (trial_label.clauses 𝓛 mem run) (λ κs r e. r)
  trial_label-determined = determined-by 𝓤 {T = trial_label.ended} (trial_label.clauses 𝓛 mem run) _ _ (λ κs a g r e. id⊢ 𝓤 _)

  pub trial_shown-determined : Determined 𝓤 {T = trial_shown.ended} (trial_shown.clauses 𝓛 mem run) (λ κs r e. with_lent r e.1.1.1.1.0.now)
  trial_shown-determined =
      determined-by 𝓤 {T = trial_shown.ended} (trial_shown.clauses 𝓛 mem run) _ _ (λ κs a g r e. answer-and-lent 𝓤 (id⊢ 𝓤 _) (id⊢ 𝓤 _))
