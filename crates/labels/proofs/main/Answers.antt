-- Two bytes of map number are read or none, and the store is that of a fresh box.
use Prim.Native.Nat.{◌≤◌}
use native.Mathlib.Omega.{arith}
use mathlib.Core.Path.{ap}
use lib.ListN.{length}
use denote.Bor.{Bor}
use Prim.Native.Nat.{ℕ}
use mathlib.Core.List.{List}
use Rattle.receiver.proofs.Laws.{fresh-store}
use Rattle.labels.proofs.main.Goals.{in-Ok, in-Err}
use Rattle.labels.proofs.main.Goals as goal

pub labels_of-printed-requires : goal.labels_of-printed-requires
labels_of-printed-requires c =
    let few : length c.match-read_exact.head.now ≤ 2 =
    elim c.match-read_exact.branch [
      | in-Ok w ↦ omega (arith, ap (λ (b : Bor (List ℕ)). length b.now) w.head-is, c.read_exact.auto.buf)
      | in-Err w ↦ omega (arith, ap (λ (b : Bor (List ℕ)). length b.now) w.head-is)
    ] in
    record { head_len_bound = few; store_value = fresh-store _ }
