-- The last digit is written behind what the call of itself wrote, which had the room for it.
use native.Mathlib.{Omega.arith, Nat.div-lt_self}
use Prim.Native.Nat.{ℕ, ◌<◌, ◌/◌}
use mathlib.Core.Path.{ap, sym, ◌∙◌, subst}
use mathlib.Core.List.{List, [], ◌∷◌, ◌++◌}
use lib.ListN.{length}
use Rattle.rules.specs.Lineup.{decimal}
use Rattle.text.specs.Written.{Wrote}
use Rattle.text.proofs.Written.{decimal_digit, decimal_step, decimal-step-length, then}
use Rattle.text.proofs.+put_number.Goals as goal

pub put_byte-requires : goal.put_byte-requires
put_byte-requires t c =
    let e = ap length (decimal_digit c.args.n c.if-n-lt10.true) in
    omega (arith, c.requires)

pub returns-then-n-lt10 : goal.returns-then-n-lt10
returns-then-n-lt10 t c =
    let e = decimal_digit c.args.n c.if-n-lt10.true in
    subst (λ (x : List ℕ). Wrote c.args.out.now c.args.at x c.put_byte.new.out c.put_byte.result)
    (ap (λ (d : ℕ). d ∷ []) c.digit.ensures ∙ sym e) c.put_byte.ensures

pub put_number-next-requires : goal.put_number-next-requires
put_number-next-requires t c =
    let n = c.args.n in
    let h = c.if-n-lt10.false in (
      subst (λ (k : ℕ). n / 10 < k) c.decreases (div-lt_self (omega arith) (omega arith)),
      omega (arith, c.requires, decimal-step-length n h c.ranges.n.fits),
    )

pub put_byte-requires-2 : goal.put_byte-requires-2
put_byte-requires-2 t c =
    let l = decimal-step-length c.args.n c.if-n-lt10.false c.ranges.n.fits in
    omega (arith, c.requires, c.put_number-next.auto.out, c.put_number-next.ensures.behind)

pub returns : goal.returns
returns t c =
    let n = c.args.n in
    let h = c.if-n-lt10.false in
    subst (λ (x : List ℕ). Wrote c.args.out.now c.args.at x c.put_byte-2.new.out c.put_byte-2.result)
    (ap (λ (k : ℕ). decimal (n / 10) ++ (k ∷ [])) c.digit-2.ensures ∙ sym (decimal_step n h c.ranges.n.fits))
    (then c.put_number-next.ensures c.put_byte-2.ensures)
