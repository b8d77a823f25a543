use mathlib.Core.Path.{◌≡◌}
use lib.ListN.{length, take}
use Rattle.rules.specs.LabelLines.{hexadecimal}
use Rattle.text.specs.Written.{Wrote}
use Rattle.text.proofs.put_hex.Given as goal

abbrev pub invariant-loop-i : goal.invariant-loop-i
invariant-loop-i l = (length l.out ≡ length l.initial.out) × Wrote l.initial.out l.at (hexadecimal (take l.i l.bytes)) l.out l.next
