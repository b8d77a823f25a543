-- Two outcomes that a promise of this crate allows are equal: how many bytes were written, and every byte of both
-- buffers, behind what was written too.
use Prim.Native.Nat.{ℕ}
use mathlib.Core.{Path.◌≡◌, List.List}
use seplogic.Ra.Ura.{Ura}
use base.Logic.{SProp, id⊢}
use contract.Monad.{Fun}
use types.Logic.{Logic}
use prog.Memory.{Memory}
use prog.Routine.{Routine}
use Rattle.rules.proofs.Determined.{Determined, with_lent, determined-once, both_say}
use Rattle.text.specs.Written.{Wrote}
use Rattle.text.proofs.Determined.{same_end, same_bytes}
use Rattle.printout.specs.declared.Printed.{Printed}
use Rattle.printout.specs.contracts.print
use Rattle.printout.specs.contracts.print_labels

printed-once : (out t b c more u l m : List ℕ) (r q : Printed) → Wrote out 0 t b r.heading → Wrote more 0 u l r.lines → Wrote out 0 t c q.heading
    → Wrote more 0 u m q.lines → with_lent r (with_lent b l) ≡ with_lent q (with_lent c m)
printed-once out t b c more u l m r q w v x y =
    let heading : r.heading ≡ q.heading = same_end w x in
    let lines : r.lines ≡ q.lines = same_end v y in
    let front : b ≡ c = same_bytes w x in
    let behind : l ≡ m = same_bytes v y in
    let both : ◌≡◌ {A = Printed} (record { heading = r.heading; lines = r.lines }) (record { heading = q.heading; lines = q.lines }) = cc in
    let printed : r ≡ q = both in
    cc

module _ {M : Type 1} {𝓤 : Ura M} (𝓛 : Logic 𝓤) (mem : Memory → SProp 𝓤) (run : Routine → Fun 𝓤) where
  pub print-determined : Determined 𝓤 {T = print.ended} (print.clauses 𝓛 mem run)
      (λ κs r e. with_lent r (with_lent e.1.1.0.now e.1.1.1.0.now))
  print-determined =
      determined-once 𝓤 {T = print.ended} (print.clauses 𝓛 mem run) _ _
      (λ κs a g r e. both_say 𝓤 (id⊢ 𝓤 _) (both_say 𝓤 (id⊢ 𝓤 _) (both_say 𝓤 (id⊢ 𝓤 _) (id⊢ 𝓤 _))))
      (λ κs a g r q e f x y. printed-once _ _ _ _ _ _ _ _ r q x.0 x.1.0 y.0 y.1.0)

  pub print_labels-determined : Determined 𝓤 {T = print_labels.ended} (print_labels.clauses 𝓛 mem run)
      (λ κs r e. with_lent r (with_lent e.1.1.0.now e.1.1.1.0.now))
  print_labels-determined =
      determined-once 𝓤 {T = print_labels.ended} (print_labels.clauses 𝓛 mem run) _ _
      (λ κs a g r e. both_say 𝓤 (id⊢ 𝓤 _) (both_say 𝓤 (id⊢ 𝓤 _) (both_say 𝓤 (id⊢ 𝓤 _) (id⊢ 𝓤 _))))
      (λ κs a g r q e f x y. printed-once _ _ _ _ _ _ _ _ r q x.0 x.1.0 y.0 y.1.0)
