-- Two outcomes that a promise of this crate allows are equal: the register after the bytes.
use seplogic.Ra.Ura.{Ura}
use base.Logic.{SProp, id⊢}
use contract.Monad.{Fun}
use types.Logic.{Logic}
use prog.Memory.{Memory}
use prog.Routine.{Routine}
use Rattle.rules.proofs.Determined.{Determined, determined-by}
use Rattle.crc.specs.contracts.crc_from
use Rattle.crc.specs.contracts.crc

module _ {M : Type 1} {𝓤 : Ura M} (𝓛 : Logic 𝓤) (mem : Memory → SProp 𝓤) (run : Routine → Fun 𝓤) where
  pub crc_from-determined : Determined 𝓤 {T = crc_from.ended} (crc_from.clauses 𝓛 mem run) (λ κs r e. r)
  crc_from-determined = determined-by 𝓤 {T = crc_from.ended} (crc_from.clauses 𝓛 mem run) _ _ (λ κs a g r e. id⊢ 𝓤 _)

  pub crc-determined : Determined 𝓤 {T = crc.ended} (crc.clauses 𝓛 mem run) (λ κs r e. r)
  crc-determined = determined-by 𝓤 {T = crc.ended} (crc.clauses 𝓛 mem run) _ _ (λ κs a g r e. id⊢ 𝓤 _)
