-- Two outcomes that a promise of this crate allows are equal: the place behind the text or its length, how many lines there are,
-- and every byte of the buffer.
use Prim.Native.Nat.{ℕ}
use mathlib.Core.{Path.◌≡◌, Path.sym, Path.◌∙◌, List.List}
use seplogic.Ra.Ura.{Ura}
use base.Logic.{SProp, id⊢}
use contract.Monad.{Fun}
use types.Logic.{Logic}
use prog.Memory.{Memory}
use prog.Routine.{Routine}
use Rattle.rules.proofs.Determined.{Determined, determined-by, with_lent, determined-once, both_say}
use Rattle.text.specs.Written.{Wrote}
use Rattle.text.specs.contracts.heading
use Rattle.text.specs.contracts.refused
use Rattle.text.specs.contracts.label_heading
use Rattle.text.specs.contracts.labels_refused
use Rattle.text.specs.contracts.channel_line
use Rattle.text.specs.contracts.label_line
use Rattle.text.specs.contracts.lines_of

-- a text at a place is written in one way
module _ {out : List ℕ} {at : ℕ} {t b c : List ℕ} {r q : ℕ} (w : Wrote out at t b r) (x : Wrote out at t c q) where
  pub same_end : r ≡ q
  same_end = w.behind ∙ sym x.behind

  pub same_bytes : b ≡ c
  same_bytes = w.holds ∙ sym x.holds

  pub wrote-once : with_lent r b ≡ with_lent q c
  wrote-once = let e = same_end in let f = same_bytes in cc

module _ {M : Type 1} {𝓤 : Ura M} (𝓛 : Logic 𝓤) (mem : Memory → SProp 𝓤) (run : Routine → Fun 𝓤) where
  pub heading-determined : Determined 𝓤 {T = heading.ended} (heading.clauses 𝓛 mem run) (λ κs r e. with_lent r e.0.now)
  heading-determined =
      determined-once 𝓤 {T = heading.ended} (heading.clauses 𝓛 mem run) _ _ (λ κs a g r e. both_say 𝓤 (id⊢ 𝓤 _) (id⊢ 𝓤 _))
      (λ κs a g r q e f x y. wrote-once x.0 y.0)

  pub refused-determined : Determined 𝓤 {T = refused.ended} (refused.clauses 𝓛 mem run) (λ κs r e. with_lent r e.0.now)
  refused-determined =
      determined-once 𝓤 {T = refused.ended} (refused.clauses 𝓛 mem run) _ _ (λ κs a g r e. both_say 𝓤 (id⊢ 𝓤 _) (id⊢ 𝓤 _))
      (λ κs a g r q e f x y. wrote-once x.0 y.0)

  pub label_heading-determined : Determined 𝓤 {T = label_heading.ended} (label_heading.clauses 𝓛 mem run) (λ κs r e. with_lent r e.0.now)
  label_heading-determined =
      determined-once 𝓤 {T = label_heading.ended} (label_heading.clauses 𝓛 mem run) _ _ (λ κs a g r e. both_say 𝓤 (id⊢ 𝓤 _) (id⊢ 𝓤 _))
      (λ κs a g r q e f x y. wrote-once x.0 y.0)

  pub labels_refused-determined : Determined 𝓤 {T = labels_refused.ended} (labels_refused.clauses 𝓛 mem run) (λ κs r e. with_lent r e.0.now)
  labels_refused-determined =
      determined-once 𝓤 {T = labels_refused.ended} (labels_refused.clauses 𝓛 mem run) _ _ (λ κs a g r e. both_say 𝓤 (id⊢ 𝓤 _) (id⊢ 𝓤 _))
      (λ κs a g r q e f x y. wrote-once x.0 y.0)

  pub channel_line-determined : Determined 𝓤 {T = channel_line.ended} (channel_line.clauses 𝓛 mem run) (λ κs r e. with_lent r e.0.now)
  channel_line-determined =
      determined-once 𝓤 {T = channel_line.ended} (channel_line.clauses 𝓛 mem run) _ _ (λ κs a g r e. id⊢ 𝓤 _)
      (λ κs a g r q e f x y. wrote-once x.1 y.1)

  pub label_line-determined : Determined 𝓤 {T = label_line.ended} (label_line.clauses 𝓛 mem run) (λ κs r e. with_lent r e.0.now)
  label_line-determined =
      determined-once 𝓤 {T = label_line.ended} (label_line.clauses 𝓛 mem run) _ _ (λ κs a g r e. id⊢ 𝓤 _)
      (λ κs a g r q e f x y. wrote-once x.1 y.1)

  pub lines_of-determined : Determined 𝓤 {T = lines_of.ended} (lines_of.clauses 𝓛 mem run) (λ κs r e. r)
  lines_of-determined = determined-by 𝓤 {T = lines_of.ended} (lines_of.clauses 𝓛 mem run) _ _ (λ κs a g r e. id⊢ 𝓤 _)
