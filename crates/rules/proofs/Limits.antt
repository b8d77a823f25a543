-- A record within its table's limits takes no index beyond 16 bits.
use Prim.Native.Nat.{ℕ, ◌+◌, ◌<◌, ◌%◌}
use native.Mathlib.Omega.{arith}
use mathlib.Core.Path.{◌≡◌}
use mathlib.Core.Bool.{true}
use lib.Dec.{leb, ltb}
use borrow.Author.Tests.{leb-true}
use Rattle.rules.specs.Layout.{Layout}
use Rattle.rules.specs.Tables.{assigned, mode_fair, carriers_fair, range_fair, Name, cds, mms, vcm, dcm, ntt}
use Rattle.rules.specs.{declared.Carriers.Carriers, declared.Mode.Mode, declared.Range.Range, declared.Channel.Channel}
use Rattle.rules.proofs.Taken.{both_right}

abbrev pub Limited : {R : Type 0} → Layout R → Type 0
Limited {R} l = (index : ℕ) (r : R) → index < 65536 → l.fair index r ≡ true → index + l.takes r < 65536

pub cds_limited : Limited cds
unfolding cds carriers_fair
cds_limited index c low fair =
    omega (arith, leb-true (index + c.count) 256 (both_right (ltb 0 c.count) (leb (index + c.count) 256) fair))

pub mms_limited : Limited mms
unfolding mms mode_fair
mms_limited index m low fair = omega (arith, leb-true index 255 (both_right (assigned m) (leb index 255) fair))

pub vcm_limited : (included : ℕ) → Limited (vcm included)
unfolding vcm
vcm_limited included index c low fair = omega arith

pub dcm_limited : Limited dcm
unfolding dcm range_fair
dcm_limited index r low fair =
    omega (arith, leb-true (index + r.count) 4096 (both_right (ltb 0 r.count) (leb (index + r.count) 4096) fair))

pub ntt_limited : Limited ntt
unfolding ntt
ntt_limited index n low fair = omega arith
