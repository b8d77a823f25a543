-- Two outcomes that a promise of this crate allows are equal: the refusal that goes for every channel, or that there is none, what the
-- question answers, and which part of the store or of the fallback a label is, its bytes and its address.
use seplogic.Ra.Ura.{Ura}
use base.Logic.{SProp, id⊢}
use contract.Monad.{Fun}
use types.Logic.{Logic}
use prog.Memory.{Memory}
use prog.Routine.{Routine}
use mathlib.Core.Path.{sym, ◌∙◌}
use Rattle.rules.proofs.Determined.{Determined, determined-by, determined-once, first_says, with_lent, answer-and-lent}
use Rattle.rules.proofs.Refusals.{by_number-once}
use Rattle.label.specs.contracts.check
use Rattle.label.specs.contracts.look_up
use Rattle.label.specs.contracts.ask_label
use Rattle.label.specs.contracts.label

module _ {M : Type 1} {𝓤 : Ura M} (𝓛 : Logic 𝓤) (mem : Memory → SProp 𝓤) (run : Routine → Fun 𝓤) where
  pub check-determined : Determined 𝓤 {T = check.ended} (check.clauses 𝓛 mem run) (λ κs r e. r)
  check-determined =
      determined-once 𝓤 {T = check.ended} (check.clauses 𝓛 mem run) _ _ (λ κs a g r e. id⊢ 𝓤 _)
      (λ κs a g r r' e e' s t. by_number-once _ _ (s ∙ sym t))

  pub look_up-determined : Determined 𝓤 {T = look_up.ended} (look_up.clauses 𝓛 mem run) (λ κs r e. r)
  look_up-determined =
      determined-once 𝓤 {T = look_up.ended} (look_up.clauses 𝓛 mem run) _ _ (λ κs a g r e. first_says 𝓤 (id⊢ 𝓤 _) (id⊢ 𝓤 _))
      (λ κs a g r r' e e' s t. by_number-once _ _ (s ∙ sym t))

  pub ask_label-determined : Determined 𝓤 {T = ask_label.ended} (ask_label.clauses 𝓛 mem run) (λ κs r e. r)
  ask_label-determined =
      determined-once 𝓤 {T = ask_label.ended} (ask_label.clauses 𝓛 mem run) _ _
      (λ κs a g r e. first_says 𝓤 (id⊢ 𝓤 _) (first_says 𝓤 (id⊢ 𝓤 _) (id⊢ 𝓤 _)))
      (λ κs a g r r' e e' s t. by_number-once _ _ (s ∙ sym t))

  pub label-determined : Determined 𝓤 {T = label.ended} (label.clauses 𝓛 mem run) (λ κs r e. with_lent r.now r.ref_ptr)
  label-determined =
      determined-by 𝓤 {T = label.ended} (label.clauses 𝓛 mem run) _ _
      (λ κs a g r e. answer-and-lent 𝓤 (id⊢ 𝓤 _) (first_says 𝓤 (id⊢ 𝓤 _) (id⊢ 𝓤 _)))
