-- The layout of records whose indices are all at most 255: no index is looked at, and so none is counted.
use native.Mathlib.Omega.{arith}
use Rattle.std.specs.Prelude.{true}
use Rattle.rules.specs.Layout.{Layout, fixed}
use Rattle.rules.specs.Tables.{mode_zeros, mode_of, assigned}
use Rattle.rules.specs.declared.Mode.{Mode}
use Rattle.rules.proofs.Limits.{Limited}

unfoldable pub low : Layout Mode
low = record { block = fixed 6 mode_zeros mode_of; fair = λ index m. assigned m; takes = λ m. 0; described = true }

pub low_limited : Limited low
unfolding low
low_limited index m small fair = omega arith
