-- The table was checked.
use mathlib.Core.Path.{refl}
use Rattle.rules.specs.declared.Table.TheVariants.{Dcm}
use Rattle.tuner.proofs.Laws.{searchable}
use Rattle.tuner.proofs.Lookup.is_defined.Goals as goal

pub range_entry-entry-requires : goal.range_entry-entry-requires
range_entry-entry-requires c = searchable _ _ c.args.self.now.checked Dcm refl
