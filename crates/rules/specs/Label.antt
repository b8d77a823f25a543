-- Request 2026-01: the label of a channel. "For a channel the label is the name bytes of the first record with its application flag and number, or, if
-- there is none or the table isn't live, the bytes of the fallback label that the hotel lends; either way a part of what was lent and no copy."
use Rattle.std.specs.Prelude.{ℕ, ◌+◌, Bool, true, false, cond, ◌&&◌, List, [], length, take, drop, leb, eqb}
use Rattle.std.proofs.Math.Option.{Option, none, some}
use Rattle.rules.specs.Layout.{Numbered}
use Rattle.rules.specs.Tables.{Name, ntt}
use Rattle.rules.specs.Holding.{limit_of, store_size, well_formed}
use Rattle.rules.specs.Search.{first}
use Rattle.rules.specs.Tuning.{table_live, all_live, table_reads, all_read, plant, is_channel, defined}
use Rattle.rules.specs.Standing.{Standing, live_standing}
use Rattle.rules.specs.declared.Table.TheVariants.{Ntt}
use Rattle.rules.specs.declared.Channel.{Channel}
use Rattle.rules.specs.declared.State.{State}
use Rattle.rules.specs.declared.Labelled.{Labelled}
use Rattle.rules.specs.declared.Labelled.TheVariants.{Named, Fallback}
use Rattle.rules.specs.Refusals.{OrRefused, wrong, right}

-- ---- "the first record with its application flag and number"

unfoldable pub is_name : (application number : ℕ) → Numbered Name → Bool
is_name application number e = eqb e.what.application application && eqb e.what.number number

-- the live names; none where "the table isn't live"
unfoldable pub live_names : State → List ℕ → List (Standing Name)
live_names s store = cond (table_live s Ntt) (live_standing s store Ntt) []

-- the name stands behind the bytes that every record has
unfoldable pub label_of : Option (Standing Name) → Labelled
label_of none = Fallback
label_of (some x) = Named (x.at + ntt.block.size) (length x.row.what.name)

-- of a channel record; refusal 18: defined, but no channel record
unfoldable pub channel_label : State → List ℕ → Option (Numbered Channel) → OrRefused Labelled
channel_label s store none = wrong 18
channel_label s store (some c) =
    right (label_of (first (λ x. is_name c.what.application c.what.source x.row) (live_names s store)))

-- ---- "the label question refuses as tuning does by 1, 2 and 14 to 18, with 16 for live names too"

unfoldable pub names_read : State → List ℕ → Bool
names_read s store = cond (table_live s Ntt) (table_reads s store Ntt) true

-- the refusal, unless the test holds
unfoldable pub wants : Bool → (n : ℕ) → OrRefused Labelled → OrRefused Labelled
wants true n l = l
wants false n l = wrong n

unfoldable pub labelled : State → List ℕ → (number : ℕ) → OrRefused Labelled
labelled s store number =
    wants (leb (store_size (limit_of s)) (length store)) 1
    (wants (well_formed s) 2
    (wants (leb number 4095) 14
    (wants (all_live s) 15
    (wants (all_read s store && names_read s store) 16
    (wants (defined (plant s store).ranges number) 17
    (channel_label s store (first (is_channel number) (plant s store).channels)))))))

-- ---- the label: a part of the store, or the fallback; nothing of it is shown where the question is refused

unfoldable pub label_bytes : (store fallback : List ℕ) → OrRefused Labelled → List ℕ
label_bytes store fallback (wrong n) = []
label_bytes store fallback (right (Named start size)) = take size (drop start store)
label_bytes store fallback (right Fallback) = fallback
