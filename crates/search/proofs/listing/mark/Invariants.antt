use Rattle.search.specs.Listing.{Marked}
use Rattle.search.proofs.listing.mark.Given as goal

abbrev pub invariant-loop-i : goal.invariant-loop-i
invariant-loop-i l = Marked l.first l.i l.entry l.initial.entries l.entries
