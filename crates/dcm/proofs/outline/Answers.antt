-- The head is taken whole: 8, then 9; it has no limits.
use native.Mathlib.Omega.{arith}
use mathlib.Core.Path.{refl}
use Rattle.rules.specs.Tables.{dcm_head}
use Rattle.rules.specs.declared.Table.TheVariants.{Dcm}
use Rattle.fields.proofs.Laws.{too_short, long-enough, taken-short, taken-zeros}
use Rattle.fields.proofs.Outlines.{head-no}
use Rattle.dcm.proofs.Head.{behind-head}
use Rattle.dcm.proofs.outline.Goals as goal

pub returns-then-short : goal.returns-then-short
unfolding dcm_head
returns-then-short c =
    head-no Dcm _ refl 8 (taken-short dcm_head _ _ 7 (omega (arith, too_short _ _ _ c.short.ensures c.if-short.true)))

pub returns : goal.returns
unfolding dcm_head
returns c =
    behind-head _ _ c.head_of-h.result (omega (arith, long-enough _ _ _ c.short.ensures c.if-short.false)) c.word.ensures (cc) (cc)

pub returns-then-not-head_zeros : goal.returns-then-not-head_zeros
unfolding dcm_head
returns-then-not-head_zeros c =
    head-no Dcm _ refl 9 (taken-zeros dcm_head _ _ 7 (omega (arith, long-enough _ _ _ c.short.ensures c.if-short.false)) (cc))
