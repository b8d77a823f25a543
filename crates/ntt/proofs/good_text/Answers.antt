-- Whether all of it is a text is whether blocks fill it from the place that the walk has come to.
use native.Mathlib.Omega.{arith}
use mathlib.Core.Path.{sym, ◌∙◌}
use lib.ListN.{length}
use borrow.Author.Tests.{eqb-true, eqb-false}
use Rattle.ntt.proofs.Texts.{text-empty, text-begin, text-end, text-short, text-mode, text-on, tail-whole}
use Rattle.ntt.proofs.good_text.Goals as goal

pub returns-then-is_empty : goal.returns-then-is_empty
returns-then-is_empty c = text-empty _ (eqb-true (length c.args.s.now) 0 (sym c.is_empty.ensures ∙ c.if-is_empty.true))

pub loop-at-init : goal.loop-at-init
loop-at-init c = text-begin _ (λ e. eqb-false (length c.args.s.now) 0 (sym c.is_empty.ensures ∙ c.if-is_empty.false) e)

pub returns-then-rest-size : goal.returns-then-rest-size
returns-then-rest-size c =
    text-short c.loop-at.invariant c.loop-at-test.true (tail-whole _ _) c.block_size-size.ensures.value c.if-rest-size.true

-- a block that is there is at least one byte, so the place moves on
pub loop-at-smaller : goal.loop-at-smaller
loop-at-smaller c =
    omega (arith, c.block_size-size.ensures.result_nonzero)

pub loop-at-preserved : goal.loop-at-preserved
loop-at-preserved c =
    let size = c.block_size-size.ensures in
    text-on c.loop-at.invariant c.loop-at-test.true (tail-whole _ _) size.value (omega arith) (cc) size.result_nonzero.0 c.if-not-good_mode.false

pub returns-then-not-good_mode : goal.returns-then-not-good_mode
returns-then-not-good_mode c =
    text-mode c.loop-at.invariant c.loop-at-test.true (tail-whole _ _) c.block_size-size.ensures.value c.if-rest-size.false (cc) c.if-not-good_mode.true

pub returns : goal.returns
returns c = text-end c.loop-at.invariant c.loop-at-test.false
