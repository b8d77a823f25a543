-- The table was checked.
use mathlib.Core.Path.{refl}
use Rattle.rules.specs.declared.Table.TheVariants.{Vcm}
use Rattle.tuner.proofs.Laws.{searchable}
use Rattle.tuner.proofs.Lookup.find_channel.Goals as goal

pub channel_entry-entry-requires : goal.channel_entry-entry-requires
channel_entry-entry-requires c = searchable _ _ c.args.self.now.checked Vcm refl
