use Prim.Native.Nat.{◌+◌, ◌-◌, ◌*◌, ◌≤◌}
use Rattle.search.proofs.Entries.{Seeks}
use Rattle.search.proofs.entry_within.Given as goal

abbrev pub invariant-loop-k : goal.invariant-loop-k
invariant-loop-k g l =
    Seeks (g.R.Records.layout l.rows) l.fn.s l.store g.R.Searched.TABLE (g.R.Searched.goes_by l.key) l.i l.start (l.k-end - l.k) l.index l.b l.at
    × (l.index ≤ 65535 + 65535 * l.k)
