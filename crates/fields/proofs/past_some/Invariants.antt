use Prim.Native.Nat.{◌-◌, ◌≤◌}
use mathlib.Core.Path.{◌≡◌}
use lib.ListN.{length}
use Rattle.rules.specs.{Bytes.from, Descriptors.passed}
use Rattle.fields.specs.Place.{left_of}
use Rattle.fields.proofs.past_some.Given as goal

abbrev pub invariant-loop-done : goal.invariant-loop-done
invariant-loop-done l = (l.at ≤ length l.b) × (left_of (passed l.count (from l.b l.start)) ≡ left_of (passed (l.count - l.done) (from l.b l.at)))
