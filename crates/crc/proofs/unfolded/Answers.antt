-- The halves of the eight bytes' number, joined by what was folded.
use Rattle.std.proofs.Common.{◌^◌, ◌<◌, ap, arith}
use Rattle.crc.specs.Folding.{zeros, four_at, eight}
use Rattle.crc.proofs.Folding.{residue-halves}
use Rattle.crc.proofs.unfolded.Goals as goal

pub returns : goal.returns
unfolding eight
returns c =
    let a = c.args in let l = c.word_at-2 in
    let h : four_at a.s.now 4 < 2 ^ 32 = omega arith in
    rw (c.four_zeros-2.ensures, c.four_zeros.ensures, c.word_at.ensures, l.ensures)
    (ap (zeros 4) (residue-halves a.e (four_at a.s.now 0) (four_at a.s.now 4) h))
