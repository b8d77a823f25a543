-- The closing list stands where the head says, so its first descriptor of a tag is the one that the rule finds.
use native.Mathlib.Omega.{arith}
use mathlib.Core.Path.{◌≡◌, sym, ap, ◌∙◌}
use borrow.Author.Rules.{rules}
use Rattle.std.specs.Prelude.{Err}
use Rattle.rules.specs.{Refusals.by_number, Section.without_crc}
use Rattle.rules.proofs.Told.{ask-told}
use Rattle.section.proofs.Whole.{ask-refused, read-long, ask-listed, ask-first}
use Rattle.section.proofs.ask_descriptor.Goals as goal

pub returns : goal.returns
unfolding without_crc
returns c =
    let both = ask-told _ _ (c.first_of.ensures ∙ ask-first _ _ (ap by_number (sym c.in_ok-head.was) ∙ c.read_section.ensures.value) _) in
    record { value = both.0; result_value = both.1 }

pub first_of-requires : goal.first_of-requires
unfolding without_crc
first_of-requires c = ask-listed _ _ (ap by_number (sym c.in_ok-head.was) ∙ c.read_section.ensures.value)

pub returns-in_err-head : goal.returns-in_err-head
returns-in_err-head c =
    let e : c.from_residual.result ≡ Err c.in_err-head.field-0.0 = search rules in
    let both = ask-told _ _ (ask-refused _ _ _ (ap by_number (sym c.in_err-head.was) ∙ c.read_section.ensures.value)) in
    rw e (record { value = both.0; result_value = both.1 })

pub slice_bounds-first_of-count : goal.slice_bounds-first_of-count
slice_bounds-first_of-count c =
    let l = read-long _ _ (ap by_number (sym c.in_ok-head.was) ∙ c.read_section.ensures.value) in omega arith
