-- The two tests are the two refusals of the rule; where both pass, the length byte says where the next descriptor begins.
use native.Mathlib.Omega.{arith}
use Rattle.rules.specs.Bytes.{byte}
use Rattle.fields.proofs.Laws.{too_short, long-enough, stands-no, stands_at, desc-short, desc-cut, desc-whole}
use Rattle.fields.proofs.past_one.Goals as goal

pub returns-then-b-at : goal.returns-then-b-at
unfolding byte
returns-then-b-at c =
    let h = long-enough _ _ _ c.short.ensures c.if-short.false in
    stands-no _ _ _ (desc-cut _ _ (omega (arith, h)) (omega (arith, h)))

pub returns : goal.returns
unfolding byte
returns c =
    let h = long-enough _ _ _ c.short.ensures c.if-short.false in
    stands_at _ _ _ _ (desc-whole _ _ (omega (arith, h)) (omega (arith, h))) (omega (arith, h))

pub returns-then-short : goal.returns-then-short
returns-then-short c = stands-no _ _ _ (desc-short _ _ (omega (arith, too_short _ _ _ c.short.ensures c.if-short.true)))

pub overflow_add-n : goal.overflow_add-n
overflow_add-n c = omega (arith, long-enough _ _ _ c.short.ensures c.if-short.false)

pub bounds-b-at : goal.bounds-b-at
bounds-b-at c = omega (arith, long-enough _ _ _ c.short.ensures c.if-short.false)

pub overflow_add-at : goal.overflow_add-at
overflow_add-at c = omega (arith, long-enough _ _ _ c.short.ensures c.if-short.false)

pub overflow_sub-b : goal.overflow_sub-b
overflow_sub-b c = omega (arith, long-enough _ _ _ c.short.ensures c.if-short.false)

pub overflow_add-result : goal.overflow_add-result
overflow_add-result c = omega (arith, long-enough _ _ _ c.short.ensures c.if-short.false)

pub overflow_add-result-2 : goal.overflow_add-result-2
overflow_add-result-2 c = omega (arith, long-enough _ _ _ c.short.ensures c.if-short.false)
