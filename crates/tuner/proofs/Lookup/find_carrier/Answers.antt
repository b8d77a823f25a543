-- The table was checked.
use mathlib.Core.Path.{refl}
use Rattle.rules.specs.declared.Table.TheVariants.{Cds}
use Rattle.tuner.proofs.Laws.{searchable}
use Rattle.tuner.proofs.Lookup.find_carrier.Goals as goal

pub carrier_entry-entry-requires : goal.carrier_entry-entry-requires
carrier_entry-entry-requires c = searchable _ _ c.args.self.now.checked Cds refl
