-- What the code answers of the record that an entry names.
use Rattle.std.specs.Prelude.{ℕ, zero, suc, ◌+◌, ◌-◌, ◌%◌, ◌^◌, ◌≤◌, List, Option, Some, None}
use Rattle.std.proofs.Math.Option as maybe
use Rattle.rules.specs.{Layout.Numbered, Tables.carrier_khz, declared.Carriers.Carriers, declared.Mode.Mode, declared.Channel.Channel}
use Rattle.rules.specs.{Bytes.byte, declared.Labelled.Labelled}
use Rattle.rules.specs.declared.Labelled.TheVariants.{Named, Fallback}

unfoldable pub carrier_found : (index : ℕ) → maybe.Option (Numbered Carriers) → Option ℕ
carrier_found index maybe.none = None
carrier_found index (maybe.some e) = Some (carrier_khz e.what (index - e.index))

unfoldable pub mode_found : maybe.Option (Numbered Mode) → Option Mode
mode_found maybe.none = None
mode_found (maybe.some e) = Some e.what

unfoldable pub channel_found : maybe.Option (Numbered Channel) → Option Channel
channel_found maybe.none = None
channel_found (maybe.some e) = Some e.what

-- of a name: where it stands in the store, and its length, which stands in front of it; without an entry the fallback
unfoldable pub label_named : (store : List ℕ) → (entry : ℕ) → Labelled
label_named store zero = Fallback
label_named store (suc n) = Named (n % 2 ^ 32 + 4) (byte (n % 2 ^ 32 + 3) store)

-- a name has at most 255 bytes: its length is one byte
abbrev pub Brief : Labelled → Type 0
Brief (Named start size) = size ≤ 255
Brief Fallback = Unit {0}
