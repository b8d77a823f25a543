-- The zero bits that are left make of r what the byte makes of the register.
use Rattle.std.proofs.Common.{[], ◌∷◌, ◌≡◌, ◌-◌}
use lib.ListN.{replicate}
use Rattle.rules.specs.Crc.{shift_all, crc_from}
use Rattle.crc.proofs.byte_step.Given as goal

abbrev pub invariant-loop : goal.invariant-loop
invariant-loop l = shift_all l.r (replicate (8 - l.counter) 0) ≡ crc_from l.reg (l.b ∷ [])
