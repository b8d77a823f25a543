-- What was folded, with the rest of s, makes of a register what s makes of the start.
use Rattle.std.proofs.Common.{ℕ, ◌<◌, ◌∙◌, get_or, arith}
use Rattle.crc.proofs.Folding.{behind, length-behind, bytes-behind, after-starts, after-goes-on}
use Rattle.crc.proofs.crc_from.Goals as goal

pub loop-rest-init : goal.loop-rest-init
loop-rest-init c =
    let s = c.args.s.now in let f = c.four_zeros-e in
    let bytes : (j : ℕ) → get_or s j 0 < 256 = λ j. omega (arith, c.type_inv.s j) in
    (omega arith, bytes, omega arith, after-starts s bytes c.args.start f.result (omega arith) f.ensures (omega arith))

pub loop-rest-preserved : goal.loop-rest-preserved
loop-rest-preserved c =
    let l = c.loop-rest in let s = l.rest.now in let i = l.invariant in let f = c.fold-e.ensures in let h = c.loop-rest-test.true in
    rw (behind 8 s) (length-behind 8 s h, bytes-behind 8 s i.1, f.small, after-goes-on s i.1 l.e c.fold-e.result i.2 f h ∙ i.3)

pub returns : goal.returns
returns c = c.crc_rest-2.ensures ∙ rw (c.unfolded.ensures, behind 8 c.loop-rest.rest.now) c.loop-rest.invariant.3
