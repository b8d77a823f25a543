-- Each turn offers the next whole section, so what is left to do stays the same; where none is left, it is done.
use native.Mathlib.Omega.{arith}
use Prim.Native.Nat.{◌+◌, ◌-◌}
use mathlib.Core.Path.{◌≡◌, sym, ap}
use lib.{ListN.length, Seq.length-take-le}
use Rattle.rules.proofs.Places.{from-length}
use Rattle.stream.proofs.Laws.{going, rest-is, going_on, stopped, used-up}
use Rattle.stream.proofs.feed.Goals as goal

pub returns-then-rest-size : goal.returns-then-rest-size
returns-then-rest-size c =
    let l = c.loop-offers in
    let g = l.invariant in
    let piece = c.args.piece.now in
    let long = ap length (rest-is piece l.used) in record {
      used_after = stopped g _ (rest-is piece l.used) (omega (arith, c.if-rest-size.true, c.length_of.ensures.value));
      grew = record { sections = omega (arith, g.sections); refused = omega (arith, g.refused) };
      used_in_bounds = (g.within, omega (arith, c.if-rest-size.true, c.length_of.ensures.upper_bound, long, from-length piece l.used));
    }

pub offer_one-tally-requires : goal.offer_one-tally-requires
offer_one-tally-requires c =
    let l = c.loop-offers in
    let p = c.requires in
    let more = c.loop-offers-test.true in
    record { sections = omega (arith, p.sections, l.invariant.sections, more); refused = omega (arith, p.refused, l.invariant.refused, more) }

pub loop-offers-preserved : goal.loop-offers-preserved
loop-offers-preserved c =
    let o = c.offer_one-tally in
    let n = c.length_of in
    let l = c.loop-offers in
    let piece = c.args.piece.now in
    let one : length piece - (l.offers + 1) ≡ length piece - l.offers - 1 = omega arith in
    rw one (going_on l.invariant _ (rest-is piece l.used) (omega arith) _ n.ensures.value
    c.if-rest-size.false _ _ o.ensures.store_after o.ensures.grew o.auto.store)

pub returns : goal.returns
returns c =
    let g = c.loop-offers.invariant in record {
      used_after = used-up g (omega (arith, c.loop-offers-test.false));
      grew = record { sections = omega (arith, g.sections); refused = omega (arith, g.refused) };
      used_in_bounds = (g.within, omega (arith, g.enough, c.loop-offers-test.false));
    }

pub loop-offers-init : goal.loop-offers-init
loop-offers-init c =
    let all : length c.args.piece.now - 0 ≡ length c.args.piece.now = omega arith in
    rw all (going c.args.t c.args.store.now c.args.piece.now)

pub slice_bounds-rest-count : goal.slice_bounds-rest-count
slice_bounds-rest-count c = c.loop-offers.invariant.within

pub shape_of-store-then-rest-size : goal.shape_of-store-then-rest-size
shape_of-store-then-rest-size c = c.loop-offers.invariant.same

pub slice_bounds-offer_one-end : goal.slice_bounds-offer_one-end
slice_bounds-offer_one-end c = sym (length-take-le _ _ c.if-rest-size.false)

pub shape_of-store : goal.shape_of-store
shape_of-store c = c.loop-offers.invariant.same
