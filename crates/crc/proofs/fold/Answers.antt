-- The lower four bytes joined by what was folded, and the upper four above them.
use Rattle.std.proofs.Common.{arith, get_or}
use Rattle.crc.specs.Folding.{four_at, eight}
use Rattle.crc.proofs.Folding.{folded-eight}
use Rattle.crc.proofs.fold.Goals as goal

pub returns : goal.returns
unfolding four_at eight
returns c =
    let w = c.word_at in let a = c.args in let b = c.type_inv.s in let s = a.s.now in
    rw (← w.ensures)
    (folded-eight a.e (get_or s 0 0) (get_or s 1 0) (get_or s 2 0) (get_or s 3 0) w.result (omega arith)
    (omega (arith, b 0)) (omega (arith, b 1)) (omega (arith, b 2)) (omega (arith, b 3)) (omega arith)
    c.fold_low.ensures c.fold_high.ensures)
