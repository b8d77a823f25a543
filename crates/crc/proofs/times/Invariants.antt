-- The bits that are left of k make of r the product.
use Rattle.std.proofs.Common.{◌≡◌, ◌-◌, ◌*◌, ◌^◌}
use Rattle.crc.proofs.Turns.{turns}
use Rattle.crc.proofs.times.Given as goal

abbrev pub invariant-loop : goal.invariant-loop
invariant-loop g l = turns 63 g.row.POWER (8 - l.counter) l.r ≡ turns 63 g.row.POWER 8 (l.k * 2 ^ 56)
