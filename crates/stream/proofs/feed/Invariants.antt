use Prim.Native.Nat.{◌-◌}
use Rattle.stream.proofs.Laws.{Going}
use Rattle.stream.proofs.feed.Given as goal

abbrev pub invariant-loop-offers : goal.invariant-loop-offers
invariant-loop-offers l = Going l.initial.tally l.initial.store l.piece l.tally l.store l.used (l.offers-end - l.offers)
