-- After i turns the first i bytes are in their place.
use Prim.Native.Nat.{ℕ, ◌+◌, ◌<◌}
use native.Mathlib.{Omega.arith, Numerals.add-one}
use mathlib.Core.{Path.◌≡◌, Path.refl, Path.◌∙◌, List.List}
use lib.ListN.{length, length-set}
use lib.Seq.{paste, paste-zero, paste-suc, take-length}
use Rattle.rules.specs.Holding.{put}
use Rattle.fields.proofs.put.Goals as goal

pub loop-i-preserved : goal.loop-i-preserved
loop-i-preserved c =
    let a = c.args in
    let l = c.loop-i in
    let more : l.i < length a.bytes.now = omega (arith, c.loop-i-test.true) in
    let room : a.at + l.i < length a.store.now = omega arith in
    (rw (l.invariant.0, paste-suc a.store.now a.at a.bytes.now l.i 0 room more, add-one), simp length-set l.invariant.1)

-- all of them pasted
pasted : (d : List ℕ) (at : ℕ) (s : List ℕ) → paste d at s (length s) ≡ put d at s
unfolding put
pasted d at s = simp take-length

pub returns : goal.returns
returns c =
    let a = c.args in
    let l = c.loop-i in
    let e : l.i ≡ length a.bytes.now = omega arith in
    l.invariant.0 ∙ rw e (pasted a.store.now a.at a.bytes.now)

pub loop-i-init : goal.loop-i-init
loop-i-init c = (paste-zero c.args.store.now c.args.at c.args.bytes.now, refl)
