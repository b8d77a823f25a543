-- The bits that are left of k make of r the product.
use Rattle.std.proofs.Common.{suc, ◌≡◌, ◌+◌, ◌-◌, ◌*◌, ◌%◌, ◌^◌, arith, ap}
use Rattle.crc.proofs.Turns.{turns}
use Rattle.crc.proofs.Products.{times, product}
use Rattle.crc.proofs.times.Goals as goal

pub loop-init : goal.loop-init
loop-init g c = let e : c.args.k * 2 ^ 56 % 2 ^ 64 ≡ c.args.k * 2 ^ 56 = omega arith in ap (turns 63 g.row.POWER 8) e

pub loop-preserved : goal.loop-preserved
unfolding turns
loop-preserved g c =
    let l = c.loop in let e : 8 - l.counter ≡ suc (8 - (l.counter + 1)) = omega arith in rw c.next_bit-r.ensures (rw e at l.invariant)

pub returns : goal.returns
unfolding turns times
returns g c j hj p =
    let l = c.loop in let e : 8 - l.counter ≡ 0 = omega arith in rw (rw (e, p) at l.invariant) (product j hj c.args.k (omega arith))
