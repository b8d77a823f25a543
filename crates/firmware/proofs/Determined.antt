-- Two outcomes that a promise of this crate allows are equal: the number that the box firmware gets.
use seplogic.Ra.Ura.{Ura}
use base.Logic.{SProp, id⊢}
use contract.Monad.{Fun}
use types.Logic.{Logic}
use prog.Memory.{Memory}
use prog.Routine.{Routine}
use Rattle.rules.proofs.Determined.{Determined, determined-by}
use Rattle.firmware.specs.contracts.mofrindi_check_section

module _ {M : Type 1} {𝓤 : Ura M} (𝓛 : Logic 𝓤) (mem : Memory → SProp 𝓤) (run : Routine → Fun 𝓤) where
  pub mofrindi_check_section-determined : Determined 𝓤 {T = mofrindi_check_section.ended} (mofrindi_check_section.clauses 𝓛 mem run) (λ κs r e. r)
  mofrindi_check_section-determined =
      determined-by 𝓤 {T = mofrindi_check_section.ended} (mofrindi_check_section.clauses 𝓛 mem run) _ _ (λ κs a g r e. id⊢ 𝓤 _)
