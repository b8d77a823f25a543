-- The tests are made in the order 8, 9, 10; then what is left is what the descriptors leave.
use native.Mathlib.Omega.{arith}
use mathlib.Core.Path.{◌≡◌}
use borrow.Author.Rules.{rules}
use Rattle.std.specs.Prelude.{Err}
use Rattle.fields.proofs.Laws.{part-whole, too_short, long-enough, taken-short, taken-zeros, taken-unfair, taken_here, passes-no, passes_so}
use Rattle.fields.proofs.records.past_record.Goals as goal

pub returns-then-short : goal.returns-then-short
returns-then-short g c =
    let l = g.R.Records.layout c.args.rows.now in
    let e = c.size-size.ensures.value in
    passes-no l _ _ _ _ (taken-short l.block _ _ _ (omega (arith, e, too_short _ _ _ c.short.ensures c.if-short.true)))

pub overflow_add-r : goal.overflow_add-r
overflow_add-r g c = omega (arith, long-enough _ _ _ c.short.ensures c.if-short.false)

pub slice_bounds-r-end : goal.slice_bounds-r-end
slice_bounds-r-end g c = omega (arith, long-enough _ _ _ c.short.ensures c.if-short.false)

pub returns-then-not-zeros : goal.returns-then-not-zeros
returns-then-not-zeros g c =
    let l = g.R.Records.layout c.args.rows.now in
    let e = c.size-size.ensures.value in
    let h = long-enough _ _ _ c.short.ensures c.if-short.false in
    let p = part-whole c.args.b.now c.args.at c.size-size.result in
    passes-no l _ _ _ _ (taken-zeros l.block _ _ _ (omega (arith, e, h)) (cc))

pub returns-then-not-fair : goal.returns-then-not-fair
returns-then-not-fair g c =
    let l = g.R.Records.layout c.args.rows.now in
    let e = c.size-size.ensures.value in
    let h = long-enough _ _ _ c.short.ensures c.if-short.false in
    let p = part-whole c.args.b.now c.args.at c.size-size.result in
    passes-no l _ _ _ _ (taken-unfair l.block _ _ _ (omega (arith, e, h)) (cc) (cc))

pub returns-in_err-next : goal.returns-in_err-next
returns-in_err-next g c =
    let l = g.R.Records.layout c.args.rows.now in
    let e = c.size-size.ensures.value in
    let h = long-enough _ _ _ c.short.ensures c.if-short.false in
    let p = part-whole c.args.b.now c.args.at c.size-size.result in
    let q : c.from_residual.result ≡ Err c.in_err-next.field-0.0 = search rules in
    rw q (passes_so l _ _ _ (taken_here l.block _ _ _ (omega (arith, e, h)) (cc) (cc)) (Err c.in_err-next.field-0.0)
    (rw (← e, ← c.described.ensures, ← c.in_err-next.was) c.past_counted.ensures) tt)

pub returns : goal.returns
returns g c =
    let l = g.R.Records.layout c.args.rows.now in
    let e = c.size-size.ensures.value in
    let h = long-enough _ _ _ c.short.ensures c.if-short.false in
    let p = part-whole c.args.b.now c.args.at c.size-size.result in
    passes_so l _ _ _ (taken_here l.block _ _ _ (omega (arith, e, h)) (cc) (cc)) _
    (rw (← e, ← c.described.ensures, ← c.in_ok-next.was) c.past_counted.ensures) (cc)
