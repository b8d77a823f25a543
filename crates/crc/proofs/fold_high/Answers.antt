-- Four bytes, each above the ones before it; under `unfolding power` each power is worked out.
use Rattle.std.proofs.Common.{◌≡◌, ◌+◌, ◌*◌, ◌^◌, arith, refl}
use lib.{Dec.lit<}
use Rattle.rules.specs.Crc.{shift, bits_of, shift_all, crc_from}
use Rattle.crc.specs.Folding.{power, four}
use Rattle.crc.proofs.Folding.{folded-above}
use Rattle.crc.proofs.fold_high.Goals as goal

pub returns : goal.returns
unfolding power crc_from bits_of shift_all shift
returns c =
    let a = c.args in
    let e : a.first * 2 ^ 56 + (a.second * 2 ^ 48 + (a.third * 2 ^ 40 + a.fourth * 2 ^ 32))
    ≡ four a.first a.second a.third a.fourth * 2 ^ 32 = omega arith in
    rw e at (folded-above 56 a.first (omega arith) (omega arith) (omega arith)
    (folded-above 48 a.second (omega arith) (omega arith) (omega arith)
    (folded-above 40 a.third (omega arith) (omega arith) (omega arith)
    (c.times.ensures 4 (lit< tt) refl) (c.times-2.ensures 5 (lit< tt) refl))
    (c.times-3.ensures 6 (lit< tt) refl)) (c.times-4.ensures 7 (lit< tt) refl))
