-- Its tag, and its length up to the end.
use Prim.Native.Nat.{◌+◌, ◌-◌}
use native.Mathlib.Omega.{arith}
use lib.ListN.{length, get_or}
use borrow.Author.{Tests.eqb-true}
use Rattle.fields.proofs.Laws.{long-enough}
use Rattle.section.proofs.closing.is_lone_revision.Goals as goal

pub bounds-b-start : goal.bounds-b-start
bounds-b-start c = omega (arith, long-enough _ _ _ c.short.ensures c.if-short.false)

pub overflow_sub-result : goal.overflow_sub-result
overflow_sub-result c = omega (arith, long-enough _ _ _ c.short.ensures c.if-short.false)

pub bounds-b-start-then-b-start : goal.bounds-b-start-then-b-start
bounds-b-start-then-b-start c = omega (arith, long-enough _ _ _ c.short.ensures c.if-short.false)

pub returns-then-b-start : goal.returns-then-b-start
returns-then-b-start c = λ e.
    let a = c.args in
    let b = a.b.now in
    let h = long-enough _ _ _ c.short.ensures c.if-short.false in
    record { tag = c.if-b-start.true; fills = omega (arith, h, eqb-true (length b - (a.start + 2)) (get_or b (a.start + 1) 0) e) }
