-- The read sees only the part behind the kept bytes.
use Prim.Native.Nat.{◌≤◌}
use native.Mathlib.Omega.{arith}
use mathlib.Core.Path.{ap, ◌∙◌}
use lib.ListN.{length}
use Rattle.rules.specs.Holding.{put}
use Rattle.capture.proofs.Laws.{put_back, room}
use Rattle.capture.proofs.refill.Goals as goal

pub returns : goal.returns
returns g c =
    let a = c.args in
    let r = c.read_some in
    let given = r.ensures in
    let b = a.buffer.now in
    let inside : a.kept ≤ length b = omega (arith, c.requires) in record {
      value = (given.0, given.1, put_back b r.new.part a.kept inside r.auto.part ∙ ap (put b a.kept) given.2);
      count_in_bounds = room b r.new.part a.kept inside r.auto.part given.0 r.result.count given.2 (ap (λ q. q.count) given.1);
    }
