-- The piece is fed with what was kept before it, and what is behind its sections is moved to the front.
use Prim.Native.Nat.{◌+◌, ◌≤◌}
use native.Mathlib.Omega.{arith}
use mathlib.Core.Path.{sym}
use lib.Seq.{length-take-le}
use Rattle.stream.proofs.Moved.{absorbed, rest-kept, rest-size}
use Rattle.stream.proofs.absorb.Goals as goal

pub feed-fed-requires : goal.feed-fed-requires
feed-fed-requires c =
    let a = c.args in
    let p = c.requires in
    let n = length-take-le (a.kept + a.got) a.buffer.now p.got_in_bounds in
    record { sections = omega (arith, n, p.room.sections, p.got_in_bounds); refused = omega (arith, n, p.room.refused, p.got_in_bounds) }

pub keep-kept-requires : goal.keep-kept-requires
keep-kept-requires c =
    let a = c.args in
    let p = c.requires in
    (omega (arith, c.feed-fed.ensures.used_in_bounds.0, length-take-le (a.kept + a.got) a.buffer.now p.got_in_bounds), p.got_in_bounds)

pub returns : goal.returns
returns c =
    let k = c.keep-kept in
    let f = c.feed-fed in
    let a = c.args in
    let p = c.requires in
    let n = length-take-le (a.kept + a.got) a.buffer.now p.got_in_bounds in
    let within : f.result.used ≤ a.kept + a.got = omega (arith, n, f.ensures.used_in_bounds.0) in record {
      buffer_after =
          absorbed a.t _ a.store.now _ a.buffer.now _ a.kept a.got _ _ p.got_in_bounds f.ensures.used_after within k.ensures.value k.ensures.buffer_after;
      buffer_after_2 =
          rest-kept a.t _ a.store.now _ a.buffer.now _ a.kept a.got _ _ p.got_in_bounds f.ensures.used_after within k.ensures.value k.ensures.buffer_after;
      grew = record {
        sections = omega (arith, n, p.got_in_bounds, f.ensures.grew.sections);
        refused = omega (arith, n, p.got_in_bounds, f.ensures.grew.refused);
      };
      kept_value = (
        rest-size a.t _ a.store.now _ a.buffer.now _ a.kept a.got _ _ p.got_in_bounds f.ensures.used_after within k.ensures.value k.ensures.buffer_after,
        omega (arith, n, k.ensures.value, f.ensures.used_in_bounds.1),
      );
    }

pub slice_bounds-feed-end-2 : goal.slice_bounds-feed-end-2
slice_bounds-feed-end-2 c = sym (length-take-le _ _ c.requires.got_in_bounds)
