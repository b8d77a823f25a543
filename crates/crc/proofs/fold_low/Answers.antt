-- w is its four bytes, each above the ones before it; under `unfolding power` each power is worked out.
use Rattle.std.proofs.Common.{◌≡◌, ◌+◌, ◌*◌, ◌/◌, ◌%◌, ◌^◌, arith, refl}
use lib.{Dec.lit<}
use Rattle.rules.specs.Crc.{shift, bits_of, shift_all, crc_from}
use Rattle.crc.specs.Folding.{power}
use Rattle.crc.proofs.Folding.{folded-above}
use Rattle.crc.proofs.fold_low.Goals as goal

pub returns : goal.returns
unfolding power crc_from bits_of shift_all shift
returns c =
    let w = c.args.w in let h = c.to_be_bytes.ensures in
    let e : w / 2 ^ 24 % 256 * 2 ^ 24 + (w / 2 ^ 16 % 256 * 2 ^ 16 + (w / 2 ^ 8 % 256 * 2 ^ 8 + w % 256 * 2 ^ 0)) ≡ w = omega arith in
    rw e at (folded-above 24 (w / 2 ^ 24 % 256) (omega arith) (omega arith) (omega arith)
    (folded-above 16 (w / 2 ^ 16 % 256) (omega arith) (omega arith) (omega arith)
    (folded-above 8 (w / 2 ^ 8 % 256) (omega arith) (omega arith) (omega arith)
    (rw h at c.times.ensures 0 (lit< tt) refl) (rw h at c.times-2.ensures 1 (lit< tt) refl))
    (rw h at c.times-3.ensures 2 (lit< tt) refl)) (rw h at c.times-4.ensures 3 (lit< tt) refl))
