-- Two outcomes that a promise of this crate allows are equal: what a section reads as, refusals too, where its descriptor stands, and the
-- part shown, by its bytes and its address.
use seplogic.Ra.Ura.{Ura}
use base.Logic.{SProp, id⊢}
use contract.Monad.{Fun}
use types.Logic.{Logic}
use prog.Memory.{Memory}
use prog.Routine.{Routine}
use Rattle.rules.proofs.Determined.{Determined, determined-by, determined-once, with_lent, answer-and-lent, first_says}
use mathlib.Core.Path.{sym, ◌∙◌}
use Rattle.rules.proofs.Refusals.{by_number-once}
use Rattle.section.specs.contracts.read_section
use Rattle.section.specs.contracts.ask_descriptor
use Rattle.section.specs.contracts.find_descriptor

module _ {M : Type 1} {𝓤 : Ura M} (𝓛 : Logic 𝓤) (mem : Memory → SProp 𝓤) (run : Routine → Fun 𝓤) where
  pub read_section-determined : Determined 𝓤 {T = read_section.ended} (read_section.clauses 𝓛 mem run) (λ κs r e. r)
  read_section-determined =
      determined-once 𝓤 {T = read_section.ended} (read_section.clauses 𝓛 mem run) _ _ (λ κs a g r e. first_says 𝓤 (id⊢ 𝓤 _) (id⊢ 𝓤 _))
      (λ κs a g r r' e e' s t. by_number-once _ _ (s ∙ sym t))

  pub ask_descriptor-determined : Determined 𝓤 {T = ask_descriptor.ended} (ask_descriptor.clauses 𝓛 mem run) (λ κs r e. r)
  ask_descriptor-determined =
      determined-once 𝓤 {T = ask_descriptor.ended} (ask_descriptor.clauses 𝓛 mem run) _ _ (λ κs a g r e. first_says 𝓤 (id⊢ 𝓤 _) (id⊢ 𝓤 _))
      (λ κs a g r r' e e' s t. by_number-once _ _ (s ∙ sym t))

  pub find_descriptor-determined : Determined 𝓤 {T = find_descriptor.ended} (find_descriptor.clauses 𝓛 mem run)
      (λ κs r e. with_lent r.now r.ref_ptr)
  find_descriptor-determined =
      determined-by 𝓤 {T = find_descriptor.ended} (find_descriptor.clauses 𝓛 mem run) _ _ (λ κs a g r e. answer-and-lent 𝓤 (id⊢ 𝓤 _) (id⊢ 𝓤 _))
