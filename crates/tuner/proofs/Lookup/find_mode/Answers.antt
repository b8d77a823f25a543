-- The table was checked.
use mathlib.Core.Path.{refl}
use Rattle.rules.specs.declared.Table.TheVariants.{Mms}
use Rattle.tuner.proofs.Laws.{searchable}
use Rattle.tuner.proofs.Lookup.find_mode.Goals as goal

pub mode_entry-entry-requires : goal.mode_entry-entry-requires
mode_entry-entry-requires c = searchable _ _ c.args.self.now.checked Mms refl
