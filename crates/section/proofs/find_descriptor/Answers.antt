-- The part that is cut out is the one that the question names, and it begins where the question says.
use mathlib.Core.Path.{◌≡◌, refl, ap, ◌∙◌}
use Rattle.std.specs.Prelude.{Ok, Some}
use Rattle.rules.specs.{Bytes.from, Refusals.by_number, Section.part_of, Section.part_at}
use Rattle.fields.specs.Place.{further}
use Rattle.fields.proofs.Laws.{address-at}
use Rattle.section.proofs.Whole.{there-inside}
use Rattle.section.proofs.find_descriptor.Goals as goal

pub returns-in-Ok-Some : goal.returns-in-Ok-Some
unfolding part_of part_at from
returns-in-Ok-Some c =
    let a = c.args in
    let e = c.ask_descriptor.ensures.value in
    let there : c.ask_descriptor.result ≡ Ok (Some c.in-Ok-Some.part) = c.in-Ok-Some.is ∙ ap Ok c.in-Ok-Some.field-0-is in
    let inside = there-inside a.tag a.section.now _ e (ap by_number there) in record {
      result_value = rw (← e, there) c.part.ensures.result_value;
      ref_ptr_value = rw (← e, there) (c.part.ensures.ref_ptr_value ∙ ap (further a.section.ref_ptr) inside);
    }

pub returns-in-Ok-None : goal.returns-in-Ok-None
unfolding part_of part_at from
returns-in-Ok-None c = record {
  result_value = rw (← c.ask_descriptor.ensures.value, c.in-Ok-None.is, c.in-Ok-None.field-0-is) refl;
  ref_ptr_value = rw (← c.ask_descriptor.ensures.value, c.in-Ok-None.is, c.in-Ok-None.field-0-is) (address-at c.args.section.ref_ptr 0);
}

pub returns-in-Err : goal.returns-in-Err
unfolding part_of part_at from
returns-in-Err c = record {
  result_value = rw (← c.ask_descriptor.ensures.value, c.in-Err.is) refl;
  ref_ptr_value = rw (← c.ask_descriptor.ensures.value, c.in-Err.is) (address-at c.args.section.ref_ptr 0);
}
