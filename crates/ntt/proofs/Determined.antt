-- Two outcomes that a promise of this crate allows are equal: whether bytes are a text, how many a record has, whether a search goes by it, the
-- place behind so many records or the refusal, where the records of a section stand, and its language.
use mathlib.Core.Path.{sym, ◌∙◌}
use seplogic.Ra.Ura.{Ura}
use base.Logic.{SProp, id⊢}
use contract.Monad.{Fun}
use types.Logic.{Logic}
use prog.Memory.{Memory}
use prog.Routine.{Routine}
use Rattle.rules.proofs.Determined.{Determined, determined-by, determined-once, both_say}
use Rattle.rules.proofs.Refusals.{by_number-once}
use Rattle.fields.proofs.Laws.{stands-once}
use Rattle.ntt.specs.contracts.good_text
use Rattle.ntt.specs.contracts.name_size
use Rattle.ntt.specs.contracts.is_name
use Rattle.ntt.specs.contracts.past_names
use Rattle.ntt.specs.contracts.outline
use Rattle.ntt.specs.contracts.language_of

module _ {M : Type 1} {𝓤 : Ura M} (𝓛 : Logic 𝓤) (mem : Memory → SProp 𝓤) (run : Routine → Fun 𝓤) where
  pub good_text-determined : Determined 𝓤 {T = good_text.ended} (good_text.clauses 𝓛 mem run) (λ κs r e. r)
  good_text-determined = determined-by 𝓤 {T = good_text.ended} (good_text.clauses 𝓛 mem run) _ _ (λ κs a g r e. id⊢ 𝓤 _)

  pub name_size-determined : Determined 𝓤 {T = name_size.ended} (name_size.clauses 𝓛 mem run) (λ κs r e. r)
  name_size-determined =
      determined-once 𝓤 {T = name_size.ended} (name_size.clauses 𝓛 mem run) _ _ (λ κs a g r e. both_say 𝓤 (id⊢ 𝓤 _) (id⊢ 𝓤 _))
      (λ κs a g r r' e e' s t. s.0 ∙ sym t.0)

  pub is_name-determined : Determined 𝓤 {T = is_name.ended} (is_name.clauses 𝓛 mem run) (λ κs r e. r)
  is_name-determined = determined-by 𝓤 {T = is_name.ended} (is_name.clauses 𝓛 mem run) _ _ (λ κs a g r e. id⊢ 𝓤 _)

  pub past_names-determined : Determined 𝓤 {T = past_names.ended} (past_names.clauses 𝓛 mem run) (λ κs r e. r)
  past_names-determined =
      determined-once 𝓤 {T = past_names.ended} (past_names.clauses 𝓛 mem run) _ _ (λ κs a g r e. id⊢ 𝓤 _)
      (λ κs a g r r' e e' s t. stands-once _ r r' _ s t)

  pub outline-determined : Determined 𝓤 {T = outline.ended} (outline.clauses 𝓛 mem run) (λ κs r e. r)
  outline-determined =
      determined-once 𝓤 {T = outline.ended} (outline.clauses 𝓛 mem run) _ _ (λ κs a g r e. id⊢ 𝓤 _)
      (λ κs a g r r' e e' s t. by_number-once _ _ (s ∙ sym t))

  pub language_of-determined : Determined 𝓤 {T = language_of.ended} (language_of.clauses 𝓛 mem run) (λ κs r e. r)
  language_of-determined = determined-by 𝓤 {T = language_of.ended} (language_of.clauses 𝓛 mem run) _ _ (λ κs a g r e. id⊢ 𝓤 _)
