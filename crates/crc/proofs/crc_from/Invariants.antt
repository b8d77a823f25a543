-- What was folded, with the rest of s, makes of a register what s makes of the start.
use Rattle.std.proofs.Common.{ℕ, ◌≡◌, ◌^◌, ◌≤◌, ◌<◌, length, get_or}
use Rattle.rules.specs.Crc.{crc_from}
use Rattle.crc.proofs.Folding.{after}
use Rattle.crc.proofs.crc_from.Given as goal

abbrev pub invariant-loop-rest : goal.invariant-loop-rest
invariant-loop-rest l =
    (8 ≤ length l.rest) × ((j : ℕ) → get_or l.rest j 0 < 256) × (l.e < 2 ^ 40) × (after l.rest l.e ≡ crc_from l.start l.s)

abbrev pub decreases-loop-rest : goal.decreases-loop-rest
decreases-loop-rest l = length l.rest
