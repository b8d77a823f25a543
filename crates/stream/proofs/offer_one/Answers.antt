-- The offer is the rule's, and what it counts is the rule's count of one section.
use native.Mathlib.Omega.{arith}
use Rattle.stream.proofs.Laws.{taken-one, refused-one}
use Rattle.stream.proofs.offer_one.Goals as goal

pub returns-in-Ok : goal.returns-in-Ok
returns-in-Ok c =
    let a = c.args in
    let o = c.offer.ensures in record {
      store_after = taken-one a.t a.store.now a.section.now _ o.value o.store_after _ c.in-Ok.is;
      grew = record { sections = omega arith; refused = omega arith };
    }

pub returns-in-Err : goal.returns-in-Err
returns-in-Err c =
    let a = c.args in
    let o = c.offer.ensures in record {
      store_after = refused-one a.t a.store.now a.section.now _ o.value o.store_after _ c.in-Err.is;
      grew = record { sections = omega arith; refused = omega arith };
    }
