-- Two outcomes that a promise of this crate allows are equal: the outline or its refusal, and the place behind the records or theirs.
use seplogic.Ra.Ura.{Ura}
use base.Logic.{SProp, id⊢}
use contract.Monad.{Fun}
use types.Logic.{Logic}
use prog.Memory.{Memory}
use prog.Routine.{Routine}
use Rattle.rules.proofs.Determined.{Determined, determined-by, determined-once}
use mathlib.Core.Path.{sym, ◌∙◌}
use Rattle.rules.proofs.Refusals.{by_number-once}
use Rattle.fields.proofs.Laws.{stands-once}
use Rattle.tables.specs.contracts.outline_of
use Rattle.tables.specs.contracts.past_records
use Rattle.tables.specs.contracts.header_size
use Rattle.tables.specs.contracts.language_of

module _ {M : Type 1} {𝓤 : Ura M} (𝓛 : Logic 𝓤) (mem : Memory → SProp 𝓤) (run : Routine → Fun 𝓤) where
  pub outline_of-determined : Determined 𝓤 {T = outline_of.ended} (outline_of.clauses 𝓛 mem run) (λ κs r e. r)
  outline_of-determined =
      determined-once 𝓤 {T = outline_of.ended} (outline_of.clauses 𝓛 mem run) _ _ (λ κs a g r e. id⊢ 𝓤 _)
      (λ κs a g r r' e e' s t. by_number-once _ _ (s ∙ sym t))

  pub past_records-determined : Determined 𝓤 {T = past_records.ended} (past_records.clauses 𝓛 mem run) (λ κs r e. r)
  past_records-determined =
      determined-once 𝓤 {T = past_records.ended} (past_records.clauses 𝓛 mem run) _ _ (λ κs a g r e. id⊢ 𝓤 _)
      (λ κs a g r r' e e' s t. stands-once _ r r' _ s t)

  pub header_size-determined : Determined 𝓤 {T = header_size.ended} (header_size.clauses 𝓛 mem run) (λ κs r e. r)
  header_size-determined = determined-by 𝓤 {T = header_size.ended} (header_size.clauses 𝓛 mem run) _ _ (λ κs a g r e. id⊢ 𝓤 _)

  pub language_of-determined : Determined 𝓤 {T = language_of.ended} (language_of.clauses 𝓛 mem run) (λ κs r e. r)
  language_of-determined = determined-by 𝓤 {T = language_of.ended} (language_of.clauses 𝓛 mem run) _ _ (λ κs a g r e. id⊢ 𝓤 _)
