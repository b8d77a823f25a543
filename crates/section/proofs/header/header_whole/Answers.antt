-- Each test is a refusal of the rule, in its order.
use native.Mathlib.Omega.{arith}
use Rattle.section.proofs.Headers.{whole-short, whole-high, whole-protocol, whole-right}
use Rattle.section.proofs.header.header_whole.Goals as goal

pub returns-then-b-header_size : goal.returns-then-b-header_size
returns-then-b-header_size c = whole-short _ _ (omega (arith, c.header_size.ensures))

pub returns-then-high-ne0 : goal.returns-then-high-ne0
returns-then-high-ne0 c =
    whole-high _ _ (omega (arith, c.header_size.ensures)) (rw (← c.byte-high.ensures) c.if-high-ne0.true)

pub returns-then-protocol-ne0 : goal.returns-then-protocol-ne0
returns-then-protocol-ne0 c =
    whole-protocol _ _ (omega (arith, c.header_size.ensures)) (cc) (rw (← c.byte-protocol.ensures) c.if-protocol-ne0.true)

pub returns : goal.returns
returns c = whole-right _ _ (omega (arith, c.header_size.ensures)) (cc) (cc)
