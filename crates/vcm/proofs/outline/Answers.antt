-- The head is taken whole: 8, then 9; it has no limits. The records stand behind it.
use native.Mathlib.Omega.{arith}
use mathlib.Core.{Path.refl, Bool.true}
use lib.ListN.{take}
use Rattle.rules.specs.{Bytes.from, Tables.vcm_head_of, Tables.vcm_head, Form.map_header, Section.header_of}
use Rattle.rules.specs.declared.Table.TheVariants.{Vcm}
use Rattle.fields.proofs.Laws.{too_short, long-enough, taken-short, taken-zeros, taken_here}
use Rattle.fields.proofs.Outlines.{map_is, head-no, head-so}
use Rattle.vcm.proofs.outline.Goals as goal

pub returns-then-short : goal.returns-then-short
unfolding vcm_head
returns-then-short c =
    head-no Vcm _ refl 8 (taken-short vcm_head _ _ 7 (omega (arith, too_short _ _ _ c.short.ensures c.if-short.true)))

pub returns-then-not-head_zeros : goal.returns-then-not-head_zeros
unfolding vcm_head
returns-then-not-head_zeros c =
    head-no Vcm _ refl 9 (taken-zeros vcm_head _ _ 7 (omega (arith, long-enough _ _ _ c.short.ensures c.if-short.false)) (cc))

pub returns : goal.returns
unfolding vcm_head header_of map_header
returns c =
    let b = c.args.b.now in
    rw (map_is b _ c.word.ensures, c.head_of-h.ensures, c.part-r.ensures.result_value)
    (head-so Vcm b refl (vcm_head_of (take 7 (from b 7))) _
    (taken_here vcm_head (λ h. true) b 7 (omega (arith, long-enough _ _ _ c.short.ensures c.if-short.false)) (cc) refl))
