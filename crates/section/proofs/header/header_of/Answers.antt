-- 8 where the byte of medium and subtype is not there, then 7, then the header whole.
use native.Mathlib.Omega.{arith}
use mathlib.Core.Path.{sym, ap, ◌∙◌}
use Rattle.section.specs.Reads.{table_of}
use Rattle.section.proofs.Whole.{header-cut, header-unnamed, header-named}
use Rattle.section.proofs.header.header_of.Goals as goal

pub returns-then-b-at : goal.returns-then-b-at
unfolding table_of
returns-then-b-at c = sym (ap table_of (header-cut _ (omega arith)))

pub returns-in_default : goal.returns-in_default
unfolding table_of
returns-in_default c = sym (ap table_of (header-unnamed _ (omega arith) (cc c.in_default.ensures)))

pub returns : goal.returns
unfolding table_of
returns c = c.header_whole.ensures ∙ ap table_of (sym (header-named _ (omega arith) _ (cc)))
