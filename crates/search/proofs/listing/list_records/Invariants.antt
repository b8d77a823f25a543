use Prim.Native.Nat.{ℕ, ◌+◌, ◌-◌, ◌*◌, ◌≤◌}
use mathlib.Core.Path.{◌≡◌}
use lib.ListN.{length}
use Rattle.search.proofs.Listed.{Before, Within}
use Rattle.search.proofs.listing.list_records.Given as goal

abbrev pub invariant-loop-k : goal.invariant-loop-k
invariant-loop-k l =
    (length l.entries ≡ length l.initial.entries)
    × ((x : ℕ) → Within l.s l.store l.t l.entries l.walk.included l.start l.i (l.k-end - l.k) l.index l.b l.at x)
    × (l.index ≤ 65535 + 255 * l.k)

abbrev pub invariant-loop-i : goal.invariant-loop-i
invariant-loop-i l = (length l.entries ≡ length l.initial.entries)
    × ((x : ℕ) → Before l.s l.store l.t l.entries l.i x)
