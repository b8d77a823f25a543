-- What is told of the whole section is what the rule reads.
use Prim.Native.Nat.{ℕ, ◌%◌}
use native.Mathlib.Omega.{arith}
use mathlib.Core.Path.{sym, ap, ◌∙◌}
use Rattle.rules.specs.Section.{without_crc}
use Rattle.rules.proofs.{Right.fitting-says, Told.read_told}
use Rattle.section.proofs.Whole.{whole-unfit, whole-other, whole-spoilt, whole-newer, whole-so, reads-no, reads-content}
use Rattle.section.proofs.read_section.Goals as goal

pub returns-then-not-is_fitting : goal.returns-then-not-is_fitting
returns-then-not-is_fitting c =
    let both = read_told _ (reads-no _ _ (whole-unfit _ (cc))) in
    record { value = both.0; result_value = both.1 }

pub returns-then-not-is_table_number : goal.returns-then-not-is_table_number
returns-then-not-is_table_number c =
    let both = read_told _ (reads-no _ _ (whole-other _ (cc) (cc))) in
    record { value = both.0; result_value = both.1 }

pub returns-then-crc-ne0 : goal.returns-then-crc-ne0
returns-then-crc-ne0 c =
    let both = read_told _ (reads-no _ _ (whole-spoilt _ (cc) (cc) (λ z. c.if-crc-ne0.true (c.crc.ensures ∙ z)))) in
    record { value = both.0; result_value = both.1 }

pub returns-then-byte-ne0 : goal.returns-then-byte-ne0
returns-then-byte-ne0 c =
    let both = read_told _ (reads-no _ _ (whole-newer _ (cc) (cc) (cc) (λ z. c.if-byte-ne0.true (ap (λ (x : ℕ). x % 32) c.byte-2.ensures ∙ z)))) in
    record { value = both.0; result_value = both.1 }

pub returns : goal.returns
unfolding without_crc
returns c =
    let both = read_told _ (c.content_of.ensures ∙ reads-content _
    (whole-so _ (cc) (cc) (cc) (ap (λ (x : ℕ). x % 32) (sym c.byte-2.ensures) ∙ c.if-byte-ne0.false))) in
    record { value = both.0; result_value = both.1 }

pub slice_bounds-content_of-count : goal.slice_bounds-content_of-count
slice_bounds-content_of-count c =
    let l = fitting-says _ (sym c.is_fitting.ensures ∙ c.if-not-is_fitting.false) in omega (arith, l.long)
