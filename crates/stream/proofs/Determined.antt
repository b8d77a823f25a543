-- Two outcomes that a promise of this crate allows are equal: the tally, how many bytes were used or are kept, and every byte of
-- the store and of the buffer.
use Prim.Native.Nat.{ℕ, ◌≤◌}
use mathlib.Core.Path.{◌≡◌, sym, ap, ◌∙◌}
use mathlib.Core.List.{List}
use lib.ListN.{length}
use seplogic.Ra.Ura.{Ura}
use base.Logic.{SProp, id⊢}
use contract.Monad.{Fun}
use types.Logic.{Logic}
use prog.Memory.{Memory}
use prog.Routine.{Routine}
use Rattle.rules.specs.{Bytes.from, Feeding.Intake}
use Rattle.rules.proofs.Places.{same_place}
use Rattle.rules.proofs.Determined.{Determined, determined-by, with_lent, determined-once, both_say}
use Rattle.stream.specs.{declared.Tally.Tally, declared.Fed.Fed, declared.Absorbed.Absorbed, Tallied.intake_of}
use Rattle.stream.specs.contracts.map_of
use Rattle.stream.specs.contracts.begin
use Rattle.stream.specs.contracts.feed
use Rattle.stream.specs.contracts.absorb
use Rattle.stream.specs.contracts.finish

-- ---- an intake shows the tally, the store and the bytes kept

module _ (t u : Tally) (s z k l : List ℕ) (e : intake_of t s k ≡ intake_of u z l) where
  pub same-tally : t ≡ u
  unfolding intake_of
  same-tally = ap (λ (i : Intake). record { state = i.box.state; sections = i.sections; refused = i.refused }) e

  pub same_store : s ≡ z
  unfolding intake_of
  same_store = ap (λ (i : Intake). i.box.store) e

  pub same_kept : k ≡ l
  unfolding intake_of
  same_kept = ap (λ (i : Intake). i.kept) e

-- bytes that are left of a piece are left from one place
fed-once : (piece : List ℕ) (r q : Fed) (s z : List ℕ) (i : Intake) → intake_of r.tally s (from piece r.used) ≡ i → r.used ≤ length piece
    → intake_of q.tally z (from piece q.used) ≡ i → q.used ≤ length piece → with_lent r s ≡ with_lent q z
fed-once piece r q s z i e h f k =
    let same = e ∙ sym f in
    let t : r.tally ≡ q.tally = same-tally _ _ _ _ _ _ same in
    let n : r.used ≡ q.used = same_place piece r.used q.used h k (same_kept _ _ _ _ _ _ same) in
    let m : s ≡ z = same_store _ _ _ _ _ _ same in
    let w : ◌≡◌ {A = Fed} (record { tally = r.tally; used = r.used }) (record { tally = q.tally; used = q.used }) = cc in
    let v : r ≡ q = w in
    cc

absorbed-once : (r q : Absorbed) (s z b c k l w : List ℕ) (n : ℕ) (i : Intake) → intake_of r.tally s k ≡ i → b ≡ w → r.kept ≡ n
    → intake_of q.tally z l ≡ i → c ≡ w → q.kept ≡ n → with_lent r (with_lent s b) ≡ with_lent q (with_lent z c)
absorbed-once r q s z b c k l w n i e f g x y v =
    let same = e ∙ sym x in
    let t : r.tally ≡ q.tally = same-tally _ _ _ _ _ _ same in
    let m : s ≡ z = same_store _ _ _ _ _ _ same in
    let a : ◌≡◌ {A = Absorbed} (record { tally = r.tally; kept = r.kept }) (record { tally = q.tally; kept = q.kept }) = cc in
    let o : r ≡ q = a in
    cc

finished-once : (r q : Tally) (s z k l : List ℕ) (i : Intake) → intake_of r s k ≡ i → intake_of q z l ≡ i → with_lent r s ≡ with_lent q z
finished-once r q s z k l i e f =
    let t : r ≡ q = same-tally _ _ _ _ _ _ (e ∙ sym f) in
    let m : s ≡ z = same_store _ _ _ _ _ _ (e ∙ sym f) in
    cc

module _ {M : Type 1} {𝓤 : Ura M} (𝓛 : Logic 𝓤) (mem : Memory → SProp 𝓤) (run : Routine → Fun 𝓤) where
  pub map_of-determined : Determined 𝓤 {T = map_of.ended} (map_of.clauses 𝓛 mem run) (λ κs r e. r)
  map_of-determined = determined-by 𝓤 {T = map_of.ended} (map_of.clauses 𝓛 mem run) _ _ (λ κs a g r e. id⊢ 𝓤 _)

  pub begin-determined : Determined 𝓤 {T = begin.ended} (begin.clauses 𝓛 mem run) (λ κs r e. r)
  begin-determined = determined-by 𝓤 {T = begin.ended} (begin.clauses 𝓛 mem run) _ _ (λ κs a g r e. id⊢ 𝓤 _)

  pub feed-determined : Determined 𝓤 {T = feed.ended} (feed.clauses 𝓛 mem run) (λ κs r e. with_lent r e.1.0.now)
  feed-determined =
      determined-once 𝓤 {T = feed.ended} (feed.clauses 𝓛 mem run) _ _
      (λ κs a g r e. both_say 𝓤 (id⊢ 𝓤 _) (both_say 𝓤 (id⊢ 𝓤 _) (id⊢ 𝓤 _)))
      (λ κs a g r q e f x y. fed-once _ r q _ _ _ x.0 x.1.1.0 y.0 y.1.1.0)

  pub absorb-determined : Determined 𝓤 {T = absorb.ended} (absorb.clauses 𝓛 mem run) (λ κs r e. with_lent r (with_lent e.1.0.now e.1.1.0.now))
  absorb-determined =
      determined-once 𝓤 {T = absorb.ended} (absorb.clauses 𝓛 mem run) _ _
      (λ κs a g r e. both_say 𝓤 (id⊢ 𝓤 _) (both_say 𝓤 (id⊢ 𝓤 _) (both_say 𝓤 (id⊢ 𝓤 _) (id⊢ 𝓤 _))))
      (λ κs a g r q e f x y. absorbed-once r q _ _ _ _ _ _ _ _ _ x.0 x.1.0 x.1.1.1.0 y.0 y.1.0 y.1.1.1.0)

  pub finish-determined : Determined 𝓤 {T = finish.ended} (finish.clauses 𝓛 mem run) (λ κs r e. with_lent r e.1.0.now)
  finish-determined =
      determined-once 𝓤 {T = finish.ended} (finish.clauses 𝓛 mem run) _ _ (λ κs a g r e. id⊢ 𝓤 _)
      (λ κs a g r q e f x y. finished-once r q _ _ _ _ _ x y)
