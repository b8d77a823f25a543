-- Two outcomes that a promise of this crate allows are equal: the length of the text, and every byte of the buffer.
use seplogic.Ra.Ura.{Ura}
use base.Logic.{SProp, id⊢}
use contract.Monad.{Fun}
use types.Logic.{Logic}
use prog.Memory.{Memory}
use prog.Routine.{Routine}
use Rattle.rules.proofs.Determined.{Determined, determined-by, with_lent, answer-and-lent}
use Rattle.runs.specs.contracts.trial_lineup
use Rattle.runs.specs.contracts.trial_labels

module _ {M : Type 1} {𝓤 : Ura M} (𝓛 : Logic 𝓤) (mem : Memory → SProp 𝓤) (run : Routine → Fun 𝓤) where
  pub trial_lineup-determined : Determined 𝓤 {T = trial_lineup.ended} (trial_lineup.clauses 𝓛 mem run) (λ κs r e. with_lent r e.1.0.now)
  trial_lineup-determined =
      determined-by 𝓤 {T = trial_lineup.ended} (trial_lineup.clauses 𝓛 mem run) _ _ (λ κs a g r e. answer-and-lent 𝓤 (id⊢ 𝓤 _) (id⊢ 𝓤 _))

  pub trial_labels-determined : Determined 𝓤 {T = trial_labels.ended} (trial_labels.clauses 𝓛 mem run) (λ κs r e. with_lent r e.1.0.now)
  trial_labels-determined =
      determined-by 𝓤 {T = trial_labels.ended} (trial_labels.clauses 𝓛 mem run) _ _ (λ κs a g r e. answer-and-lent 𝓤 (id⊢ 𝓤 _) (id⊢ 𝓤 _))
