-- Right, and its descriptor count, where it has one, is 0: the next record stands right behind it.
use native.Mathlib.Omega.{arith}
use mathlib.Core.{Path.◌≡◌, Path.sym, Path.ap, Path.◌∙◌, Bool.true}
use mir.Val.{bool_byte}
use lib.ListN.{take, get_or}
use Prim.Native.Nat.{◌+◌}
use Rattle.rules.specs.{Bytes.from, Layout.extent}
use Rattle.rules.proofs.Taken.{differ, both_left, both_right}
use Rattle.fields.proofs.Laws.{part-whole, long-enough, taken_here, passes_so, stands-none}
use Rattle.fields.proofs.records.past_plain.Goals.{else-described-via-then-described+else-b-at-ne0, else-described-via-else-described}
use Rattle.fields.proofs.records.past_plain.Goals as goal

pub overflow_add-at : goal.overflow_add-at
overflow_add-at g c = omega (arith, long-enough _ _ _ c.short.ensures c.if-short.false)

pub bounds-b-at : goal.bounds-b-at
bounds-b-at g c = omega (arith, ap bool_byte c.if-described.true, long-enough _ _ _ c.short.ensures c.if-short.false)

pub overflow_add-r : goal.overflow_add-r
overflow_add-r g c = omega (arith, long-enough _ _ _ c.short.ensures c.if-short.false)

pub slice_bounds-r-end : goal.slice_bounds-r-end
slice_bounds-r-end g c = omega (arith, long-enough _ _ _ c.short.ensures c.if-short.false)

pub returns : goal.returns
returns g c =
    let l = g.R.Records.layout c.args.rows.now in
    let a = c.args in
    let size = c.size-size.result in
    let e = c.size-size.ensures.value in
    let h = long-enough _ _ _ c.short.ensures c.if-short.false in
    let r = take (extent l.block (from a.b.now a.at)) (from a.b.now a.at) in
    let both = rw (part-whole a.b.now a.at size, e) at (c.is_right.ensures c.if-not-is_right.false) in
    let zeros = both_left (l.block.zeros r) (l.fair a.index (l.block.look r)) both in
    let fair = both_right (l.block.zeros r) (l.fair a.index (l.block.look r)) both in
    let zero : c.described-described.result ≡ true → get_or a.b.now (a.at + size) 0 ≡ 0 =
    elim c.else-described.branch [
      | else-described-via-then-described+else-b-at-ne0 w ↦ λ q. w.if-b-at-ne0.false
      | else-described-via-else-described w ↦ λ q. absurd (differ (sym q ∙ w.if-described.false))
    ] in
    passes_so l _ _ _ (taken_here l.block _ _ _ (omega (arith, e, h)) zeros fair) _
    (rw (← e, ← c.described-described.ensures) (stands-none a.b.now a.at size c.described-described.result h zero))
    (rw (c.takes.ensures, part-whole a.b.now a.at size, e))
