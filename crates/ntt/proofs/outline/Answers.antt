-- The head is one byte: 8 where it isn't there, and it has neither zero bits nor limits.
use native.Mathlib.Omega.{arith}
use mathlib.Core.Path.{refl}
use Rattle.rules.specs.Tables.{ntt_head}
use Rattle.rules.specs.declared.Table.TheVariants.{Ntt}
use Rattle.fields.proofs.Laws.{too_short, long-enough, taken-short}
use Rattle.fields.proofs.Outlines.{head-no}
use Rattle.ntt.proofs.Head.{behind-head}
use Rattle.ntt.proofs.outline.Goals as goal

pub returns-then-short : goal.returns-then-short
unfolding ntt_head
returns-then-short c = head-no Ntt _ refl 8 (taken-short ntt_head _ _ 8 (omega (arith, too_short _ _ _ c.short.ensures c.if-short.true)))

pub returns : goal.returns
returns c =
    behind-head _ _ (omega (arith, long-enough _ _ _ c.short.ensures c.if-short.false)) (cc)
