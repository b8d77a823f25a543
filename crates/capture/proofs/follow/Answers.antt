-- Each read that gives bytes is a piece, fed behind what is kept; one that gives none is the end. The measure is the number of
-- reads left.
use native.Mathlib.Omega.{arith}
use Prim.Native.Nat.{◌+◌, ◌-◌}
use mathlib.Core.{Path.◌≡◌, Path.refl, Path.◌∙◌}
use Rattle.capture.proofs.Laws.{going, used-up, ended, going_on}
use Rattle.capture.proofs.follow.Goals as goal

pub loop-made-init : goal.loop-made-init
loop-made-init g c =
    let a = c.args in
    (refl, refl, going a.start a.store.now a.buffer.now)

pub returns-then-got-eq0 : goal.returns-then-got-eq0
returns-then-got-eq0 g c =
    let l = c.loop-made.invariant in
    let p = c.requires in
    let given = c.refill-got.ensures.value in
    let both = ended l.2 (l.1 ∙ p.buffer_len) (omega (arith, c.loop-made-test.true)) given.0 c.refill-got.result given.1 _ given.2 c.if-got-eq0.true c.refill-got.auto.buffer in
    record { followed_as = both.0; grew = both.1.0; kept_bound = both.1.1 }

pub absorb-held-requires : goal.absorb-held-requires
absorb-held-requires g c =
    let l = c.loop-made.invariant in
    let p = c.requires in
    let g = l.2.grew in
    let k = c.refill-got.auto.buffer in record {
      room = record {
        sections = omega (arith, g.sections, p.room.sections, c.loop-made-test.true, l.2.few, l.1, p.buffer_len, k);
        refused = omega (arith, g.refused, p.room.refused, c.loop-made-test.true, l.2.few, l.1, p.buffer_len, k);
      };
      got_in_bounds = omega (arith, c.refill-got.ensures.count_in_bounds, k);
    }

pub loop-made-preserved : goal.loop-made-preserved
loop-made-preserved g c =
    let l = c.loop-made.invariant in
    let p = c.requires in
    let e = c.absorb-held.ensures in
    let k = c.refill-got.auto.buffer in
    let given = c.refill-got.ensures.value in
    let one : 140737488355328 - (c.loop-made.made + 1) ≡ 140737488355328 - c.loop-made.made - 1 = omega arith in (
      c.absorb-held.auto.store ∙ l.0,
      c.absorb-held.auto.buffer ∙ k ∙ l.1,
      rw one (going_on l.2 (l.1 ∙ p.buffer_len) (omega (arith, c.loop-made-test.true)) given.0 c.refill-got.result given.1 _ given.2 c.if-got-eq0.false
          c.absorb-held.result _ _ e.buffer_after e.buffer_after_2 e.kept_value.0 e.kept_value.1 (rw (k ∙ l.1 ∙ p.buffer_len) at e.grew)),
    )

pub refill-got-requires : goal.refill-got-requires
refill-got-requires g c =
    let l = c.loop-made.invariant in omega (arith, l.2.short, l.1, c.requires.buffer_len)

pub returns : goal.returns
returns g c =
    let l = c.loop-made.invariant in
    let both = used-up l.2 (l.1 ∙ c.requires.buffer_len) (omega (arith, c.loop-made-test.false)) in
    record { followed_as = both.0; grew = both.1.0; kept_bound = both.1.1 }
