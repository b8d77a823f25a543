-- How many bytes there are and whether it failed are both told by the one answer of the read.
use Rattle.std.proofs.Common.{ℕ, ◌≡◌, ◌≤◌, List, length, false, refl, arith, suc}
use Rattle.std.proofs.Math.Nat.{min-eq_left}
use borrow.Author.Tests.{lt-leb}
use Rattle.std.specs.Prelude.{pos, negsuc}
use Rattle.capture.specs.declared.Got.{Got}
use Rattle.capture.specs.Read.{got_by}
use Rattle.capture.proofs.read_some.Goals as goal

told : (n : ℕ) (b : List ℕ) → n ≤ length b → ◌≡◌ {A = Got} (record { count = n; failed = false }) (got_by (record { answer = pos n; part = b }))
unfolding got_by
told n b h = simp (min-eq_left h, lt-leb (suc n) 0 (omega arith))

pub returns-in-Ok : goal.returns-in-Ok
returns-in-Ok g c =
    (record { answer = pos c.in-Ok.count; part = c.read.new.buf }, told _ _ c.in-Ok.ensures.bound.0, refl)

pub returns-in-Err : goal.returns-in-Err
unfolding got_by
returns-in-Err g c = (record { answer = negsuc 0; part = c.read.new.buf }, refl, refl)
