use Rattle.search.specs.Entries.{entry_by}
use Rattle.search.proofs.Entries.{Outside}
use Rattle.search.proofs.entry_in.Given as goal

abbrev pub invariant-loop-i : goal.invariant-loop-i
invariant-loop-i g l =
    let t = g.R.Searched.TABLE in
    let test = g.R.Searched.goes_by l.key in
    Outside l.fn.s l.store t test l.i (entry_by l.fn.s l.store t test)
