-- The zero bits that are left make of r what the byte makes of the register.
use Rattle.std.proofs.Common.{suc, ◌≡◌, ◌+◌, ◌-◌, arith}
use Rattle.rules.specs.Crc.{shift_all}
use Rattle.crc.proofs.Laws.{crc-byte}
use Rattle.crc.proofs.byte_step.Goals as goal

pub loop-init : goal.loop-init
loop-init c = crc-byte c.args.reg c.args.b (omega arith) (omega arith)

pub loop-preserved : goal.loop-preserved
unfolding shift_all
loop-preserved c =
    let l = c.loop in let e : 8 - l.counter ≡ suc (8 - (l.counter + 1)) = omega arith in rw c.zero_bit-r.ensures (rw e at l.invariant)
