-- The three ways to cut a part are the three cases of `take` behind `drop`; it begins at its place, or at the end where that lies behind it.
use native.Mathlib.Omega.{arith}
use Rattle.fields.proofs.Laws.{part-whole, part_cut, part_none, address-inside, address-behind}
use Rattle.fields.proofs.part.Goals as goal

pub returns-then-n-b : goal.returns-then-n-b
returns-then-n-b c =
    let a = c.args in record {
      result_value = part-whole a.b.now a.at a.n;
      ref_ptr_value = address-inside a.b.ref_ptr a.b.now a.at (omega arith);
    }

pub returns-else-n-b : goal.returns-else-n-b
returns-else-n-b c =
    let a = c.args in record {
      result_value = part_cut a.b.now a.at a.n (omega arith);
      ref_ptr_value = address-inside a.b.ref_ptr a.b.now a.at (omega arith);
    }

pub returns-else-at-b : goal.returns-else-at-b
returns-else-at-b c =
    let a = c.args in record {
      result_value = part_none a.b.now a.at a.n (omega arith);
      ref_ptr_value = address-behind a.b.ref_ptr a.b.now a.at (omega arith);
    }
