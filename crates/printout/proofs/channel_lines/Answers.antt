-- Where the checks are passed the four tables are listed, and the lines are those of the listings; else there are none.
use mathlib.Core.{Path.refl}
use Rattle.rules.specs.declared.Table.TheVariants.{Cds, Mms, Vcm, Dcm}
use Rattle.tuner.proofs.Laws.{searchable}
use Rattle.printout.proofs.Laws.{blank, none-refused, no-lines-in, none_written, all-written}
use Rattle.printout.proofs.channel_lines.Goals as goal

pub returns-in-Err : goal.returns-in-Err
returns-in-Err g c =
    let both = none_written _ _ _ (no-lines-in _ _ _ c.in-Err.ensures _) in
    record { wrote = both.0; count_value = both.1.0; counts = both.1.1 }

pub list_records-requires : goal.list_records-requires
list_records-requires g c = record {
  live = searchable _ _ (none-refused _ c.in_default.ensures) Dcm refl;
  blank = blank 4096 _ refl;
}

pub list_records-requires-2 : goal.list_records-requires-2
list_records-requires-2 g c = record {
  live = searchable _ _ (none-refused _ c.in_default.ensures) Vcm refl;
  blank = blank 4096 _ refl;
}

pub list_records-requires-3 : goal.list_records-requires-3
list_records-requires-3 g c = record {
  live = searchable _ _ (none-refused _ c.in_default.ensures) Cds refl;
  blank = blank 256 _ refl;
}

pub list_records-requires-4 : goal.list_records-requires-4
list_records-requires-4 g c = record {
  live = searchable _ _ (none-refused _ c.in_default.ensures) Mms refl;
  blank = blank 256 _ refl;
}

pub invariant_of-found : goal.invariant_of-found
invariant_of-found g c = record {
  checked = none-refused _ c.in_default.ensures;
  listed = record {
    ranges_listed = c.list_records.ensures.lists;
    channels_listed = c.list_records-2.ensures.lists;
    carriers_listed = c.list_records-3.ensures.lists;
    modes_listed = c.list_records-4.ensures.lists;
  };
}

pub returns : goal.returns
returns g c =
    let both = all-written _ _ _ _ c.listed_lines.result c.listed_lines.ensures in
    record { wrote = both.0; count_value = both.1.0; counts = both.1.1 }
