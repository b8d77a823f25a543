-- What the reads gave comes from outside. For the same two outcomes that a promise of this crate allows are equal: the answer, and every byte of the
-- store and of the buffer.
use Prim.Native.Nat.{ℕ}
use mathlib.Core.Path.{◌≡◌, sym, ap, ◌∙◌}
use mathlib.Core.List.{List}
use lib.ListN.{length}
use seplogic.Ra.Ura.{Ura}
use base.Logic.{SProp, id⊢}
use contract.Monad.{Fun}
use types.Logic.{Logic}
use prog.Memory.{Memory}
use prog.Routine.{Routine}
use denote.RattleType.{RattleType}
use mir.Syntax.{Dict}
use Rattle.std.specs.declared.io.traits.Read.{Ghosts}
use Rattle.rules.proofs.Determined.{DeterminedBy, with_lent, first_says, both_say}
use Rattle.stream.specs.{declared.Tally.Tally}
use Rattle.stream.proofs.Determined.{same-tally, same_store, same_kept}
use Rattle.capture.specs.declared.Followed.{Followed}
use Rattle.capture.specs.declared.Gathered.{Gathered}
use Rattle.capture.specs.Read.{Given, Ended, held_in, FollowedAs, GatheredAs}
use Rattle.capture.specs.contracts.follow
use Rattle.capture.specs.contracts.gather

followed-once : {given : List Given} {start : Tally} {store buffer : List ℕ} (r q : Followed) (s z b c : List ℕ)
    → FollowedAs given start store buffer r s b → FollowedAs given start store buffer q z c → with_lent r (with_lent s b) ≡ with_lent q (with_lent z c)
unfolding held_in
followed-once r q s z b c x y =
    let same = x.is ∙ sym y.is in
    let intakes = ap (λ (e : Ended). e.intake) same in
    let t : r.held.tally ≡ q.held.tally = same-tally _ _ _ _ _ _ intakes in
    let m : s ≡ z = same_store _ _ _ _ _ _ intakes in
    let n : r.held.kept ≡ q.held.kept = x.kept ∙ ap length (same_kept _ _ _ _ _ _ intakes) ∙ sym y.kept in
    let l : b ≡ c = ap (λ (e : Ended). e.buffer) same in
    let f : r.failed ≡ q.failed = ap (λ (e : Ended). e.failed) same in
    let a : ◌≡◌ {A = Followed} (record { held = record { tally = r.held.tally; kept = r.held.kept }; failed = r.failed })
    (record { held = record { tally = q.held.tally; kept = q.held.kept }; failed = q.failed }) = cc in
    let o : r ≡ q = a in
    cc

gathered-once : {given : List Given} {map : ℕ} {buffer : List ℕ} (r q : Gathered) (s z b c : List ℕ)
    → GatheredAs given map buffer r s b → GatheredAs given map buffer q z c → with_lent r (with_lent s b) ≡ with_lent q (with_lent z c)
gathered-once r q s z b c x y =
    let same = x.is ∙ sym y.is in
    let intakes = ap (λ (e : Ended). e.intake) same in
    let t : r.tally ≡ q.tally = same-tally _ _ _ _ _ _ intakes in
    let m : s ≡ z = same_store _ _ _ _ _ _ intakes in
    let l : b ≡ c = ap (λ (e : Ended). e.buffer) same in
    let f : r.failed ≡ q.failed = ap (λ (e : Ended). e.failed) same in
    let a : ◌≡◌ {A = Gathered} (record { tally = r.tally; failed = r.failed }) (record { tally = q.tally; failed = q.failed }) = cc in
    let o : r ≡ q = a in
    cc

-- for any reader
module _ {M : Type 1} {𝓤 : Ura M} (𝓛 : Logic 𝓤) (mem : Memory → SProp 𝓤) (run : Routine → Fun 𝓤)
    (R : RattleType) (read : Ghosts R.Denot) (dict : Dict) where
  pub follow-determined : DeterminedBy 𝓤 {T = follow.ended R read dict} (follow.clauses R read dict 𝓛 mem run)
      (λ κs r e. with_lent r (with_lent e.1.1.0.now e.1.1.1.0.now)) (List Given)
      (λ κs a g given r e. FollowedAs given a.1.0 a.1.1.0.now a.1.1.1.0.now r e.1.1.0.now e.1.1.1.0.now)
  follow-determined = (
    λ κs a g r e. first_says 𝓤 (id⊢ 𝓤 _) (both_say 𝓤 (id⊢ 𝓤 _) (id⊢ 𝓤 _)),
    λ κs a g given r q e f x y. followed-once r q _ _ _ _ x y,
  )

  pub gather-determined : DeterminedBy 𝓤 {T = gather.ended R read dict} (gather.clauses R read dict 𝓛 mem run)
      (λ κs r e. with_lent r (with_lent e.1.1.1.0.now e.1.1.1.1.0.now)) (List Given)
      (λ κs a g given r e. GatheredAs given a.1.0 a.1.1.1.1.0.now r e.1.1.1.0.now e.1.1.1.1.0.now)
  gather-determined = (λ κs a g r e. id⊢ 𝓤 _, λ κs a g given r q e f x y. gathered-once r q _ _ _ _ x y)
