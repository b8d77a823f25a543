-- Two outcomes that a promise of this crate allows are equal: the entry found, what its record says, and every entry of a listing.
use Prim.Native.Nat.{ℕ, suc, ◌<◌}
use native.Mathlib.Omega.{arith}
use mathlib.Core.Path.{◌≡◌, refl, sym, ◌∙◌}
use mathlib.Core.List.{List, [], ◌∷◌}
use lib.ListN.{length, get_or}
use seplogic.Ra.Ura.{Ura}
use base.Logic.{SProp, id⊢}
use contract.Monad.{Fun}
use types.Logic.{Logic}
use prog.Memory.{Memory}
use prog.Routine.{Routine}
use Rattle.rules.proofs.Determined.{Determined, determined-by, determined-once, both_say, first_says}
use Rattle.search.specs.contracts.carrier_entry
use Rattle.search.specs.contracts.channel_entry
use Rattle.search.specs.contracts.mode_entry
use Rattle.search.specs.contracts.range_entry
use Rattle.search.specs.contracts.name_entry
use Rattle.search.specs.contracts.label_at
use Rattle.search.specs.contracts.carrier_at
use Rattle.search.specs.contracts.mode_at
use Rattle.search.specs.contracts.channel_at
use Rattle.search.specs.contracts.defined_at
use Rattle.search.specs.contracts.listing.list_records

same-all : (xs ys : List ℕ) → length xs ≡ length ys → ((n : ℕ) → n < length xs → get_or xs n 0 ≡ get_or ys n 0) → xs ≡ ys
same-all [] [] e h = refl
same-all [] (y ∷ ys) e h = absurd (omega arith)
same-all (x ∷ xs) [] e h = absurd (omega arith)
same-all (x ∷ xs) (y ∷ ys) e h =
    let front : x ≡ y = h 0 (omega arith) in
    let behind : xs ≡ ys = same-all xs ys (omega arith) (λ n k. h (suc n) (omega arith)) in
    cc

module _ {M : Type 1} {𝓤 : Ura M} (𝓛 : Logic 𝓤) (mem : Memory → SProp 𝓤) (run : Routine → Fun 𝓤) where
  pub carrier_entry-determined : Determined 𝓤 {T = carrier_entry.ended} (carrier_entry.clauses 𝓛 mem run) (λ κs r e. r)
  carrier_entry-determined = determined-by 𝓤 {T = carrier_entry.ended} (carrier_entry.clauses 𝓛 mem run) _ _ (λ κs a g r e. id⊢ 𝓤 _)

  pub mode_entry-determined : Determined 𝓤 {T = mode_entry.ended} (mode_entry.clauses 𝓛 mem run) (λ κs r e. r)
  mode_entry-determined = determined-by 𝓤 {T = mode_entry.ended} (mode_entry.clauses 𝓛 mem run) _ _ (λ κs a g r e. id⊢ 𝓤 _)

  pub channel_entry-determined : Determined 𝓤 {T = channel_entry.ended} (channel_entry.clauses 𝓛 mem run) (λ κs r e. r)
  channel_entry-determined = determined-by 𝓤 {T = channel_entry.ended} (channel_entry.clauses 𝓛 mem run) _ _ (λ κs a g r e. id⊢ 𝓤 _)

  pub range_entry-determined : Determined 𝓤 {T = range_entry.ended} (range_entry.clauses 𝓛 mem run) (λ κs r e. r)
  range_entry-determined = determined-by 𝓤 {T = range_entry.ended} (range_entry.clauses 𝓛 mem run) _ _ (λ κs a g r e. id⊢ 𝓤 _)

  pub carrier_at-determined : Determined 𝓤 {T = carrier_at.ended} (carrier_at.clauses 𝓛 mem run) (λ κs r e. r)
  carrier_at-determined = determined-by 𝓤 {T = carrier_at.ended} (carrier_at.clauses 𝓛 mem run) _ _ (λ κs a g r e. id⊢ 𝓤 _)

  pub mode_at-determined : Determined 𝓤 {T = mode_at.ended} (mode_at.clauses 𝓛 mem run) (λ κs r e. r)
  mode_at-determined = determined-by 𝓤 {T = mode_at.ended} (mode_at.clauses 𝓛 mem run) _ _ (λ κs a g r e. id⊢ 𝓤 _)

  pub channel_at-determined : Determined 𝓤 {T = channel_at.ended} (channel_at.clauses 𝓛 mem run) (λ κs r e. r)
  channel_at-determined = determined-by 𝓤 {T = channel_at.ended} (channel_at.clauses 𝓛 mem run) _ _ (λ κs a g r e. id⊢ 𝓤 _)

  pub defined_at-determined : Determined 𝓤 {T = defined_at.ended} (defined_at.clauses 𝓛 mem run) (λ κs r e. r)
  defined_at-determined = determined-by 𝓤 {T = defined_at.ended} (defined_at.clauses 𝓛 mem run) _ _ (λ κs a g r e. id⊢ 𝓤 _)

  pub list_records-determined : Determined 𝓤 {T = list_records.ended} (list_records.clauses 𝓛 mem run) (λ κs r e. e.1.1.1.0.now)
  list_records-determined = determined-once 𝓤 {T = list_records.ended} (list_records.clauses 𝓛 mem run) _ _ (λ κs a g r e. both_say 𝓤 (id⊢ 𝓤 _) (id⊢ 𝓤 _))
      (λ κs a g r r' e e' s t. same-all _ _ (s.1 ∙ sym t.1) (λ n k. s.0.is n k ∙ sym (t.0.is n (omega (arith, k, s.1, t.1)))))

  pub name_entry-determined : Determined 𝓤 {T = name_entry.ended} (name_entry.clauses 𝓛 mem run) (λ κs r e. r)
  name_entry-determined = determined-by 𝓤 {T = name_entry.ended} (name_entry.clauses 𝓛 mem run) _ _ (λ κs a g r e. id⊢ 𝓤 _)

  pub label_at-determined : Determined 𝓤 {T = label_at.ended} (label_at.clauses 𝓛 mem run) (λ κs r e. r)
  label_at-determined = determined-by 𝓤 {T = label_at.ended} (label_at.clauses 𝓛 mem run) _ _ (λ κs a g r e. first_says 𝓤 (id⊢ 𝓤 _) (id⊢ 𝓤 _))
