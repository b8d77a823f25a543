-- Document 01, "From number to tuner", and of "Numbers of refusal" 14 to 21: what a channel number is tuned to.
use Rattle.std.specs.Prelude.{ℕ, zero, suc, ◌+◌, ◌-◌, Bool, true, false, cond, not, ◌&&◌, List, [], ◌∷◌, length, leb, ltb, eqb}
use Rattle.std.proofs.Math.Option.{Option, none, some}
use Rattle.rules.specs.Layout.{Numbered}
use Rattle.rules.specs.Tables.{carrier_khz}
pub use Rattle.rules.specs.Form.{Plant}
use Rattle.rules.specs.Section.{Structure, Reading, wrong, right}
use Rattle.rules.specs.Holding.{limit_of, is_table, each, store_size, section_at, holding_of, live_at, well_formed, other_map, read_for}
use Rattle.rules.specs.Search.{first, sections}
use Rattle.rules.specs.declared.Table.{Table}
use Rattle.rules.specs.declared.Table.TheVariants.{Cds, Mms, Vcm, Dcm}
use Rattle.rules.specs.declared.Carriers.{Carriers}
use Rattle.rules.specs.declared.Mode.{Mode}
use Rattle.rules.specs.declared.Channel.{Channel}
use Rattle.rules.specs.declared.Signal.{Signal}
use Rattle.rules.specs.declared.Range.{Range}
use Rattle.rules.specs.declared.Revision.{Revision}
use Rattle.rules.specs.declared.State.{State}
use Rattle.rules.specs.declared.Tuned.{Tuned}
use Rattle.rules.specs.Refusals.{OrRefused}

-- ---- refusals 15 and 16: the live places

-- the tables that tuning needs; request 2026-01: "15 is unchanged, since tuning needs no names"
abbrev pub needed_tables : List Table
needed_tables = Cds ∷ Mms ∷ Vcm ∷ Dcm ∷ []

-- refusal 15, unless each of them is live
unfoldable pub table_live : State → Table → Bool
table_live s t = eqb (holding_of s t).live.present 1

unfoldable pub all_live : State → Bool
all_live s = each needed_tables (table_live s)

-- sections 0 to last of a live table
unfoldable pub live_count : State → Table → ℕ
live_count s t = (holding_of s t).live.last + 1

-- what the place of section n of a live table reads as
unfoldable pub live_reading : State → List ℕ → Table → (n : ℕ) → Reading
live_reading s store t n = read_for s (section_at store (live_at s t n))

-- refusal 16, unless each live place reads right as that table, map, version, number and last; `aside` is another map
unfoldable pub is_section : State → Table → (n : ℕ) → (table : Table) → (aside : Bool) → Revision → Bool
is_section s t n table aside r =
    is_table table t
    && not aside
    && eqb r.version (holding_of s t).live.version
    && eqb r.number n
    && eqb r.last (holding_of s t).live.last

unfoldable pub reads_as : State → Table → (n : ℕ) → Reading → Bool
reads_as s t n (wrong k) = false
reads_as s t n (right c) = is_section s t n c.table (other_map s c) c.revision

-- the test holds for 0 to n - 1
unfoldable pub every : (n : ℕ) → (ℕ → Bool) → Bool
every zero test = true
every (suc n) test = every n test && test n

unfoldable pub place_reads : State → List ℕ → Table → (n : ℕ) → Bool
place_reads s store t n = reads_as s t n (live_reading s store t n)

unfoldable pub table_reads : State → List ℕ → Table → Bool
table_reads s store t = every (live_count s t) (place_reads s store t)

unfoldable pub all_read : State → List ℕ → Bool
all_read s store = each needed_tables (table_reads s store)

-- ---- the live records of the tables

abbrev pub carriers_in : Structure → List (Numbered Carriers)
carriers_in x = x.lists.carriers

abbrev pub modes_in : Structure → List (Numbered Mode)
modes_in x = x.lists.modes

abbrev pub channels_in : Structure → List (Numbered Channel)
channels_in x = x.lists.channels

abbrev pub ranges_in : Structure → List (Numbered Range)
ranges_in x = x.lists.ranges

unfoldable pub records_in : {R : Type 0} → (Structure → List R) → Reading → List R
records_in records (wrong n) = []
records_in records (right c) = records c.structure

-- the records of section n of a live table
unfoldable pub live_section : {R : Type 0} → (Structure → List R) → State → List ℕ → Table → (n : ℕ) → List R
live_section records s store t n = records_in records (live_reading s store t n)

-- the live records of a table, lowest section first
unfoldable pub live_records : {R : Type 0} → (Structure → List R) → State → List ℕ → Table → List R
live_records records s store t = sections (live_section records s store t) (live_count s t) 0

-- the live records of the tables that tuning needs
unfoldable pub plant : State → List ℕ → Plant
plant s store =
    record {
      carriers = live_records carriers_in s store Cds;
      modes = live_records modes_in s store Mms;
      channels = live_records channels_in s store Vcm;
      ranges = live_records ranges_in s store Dcm;
      names = [];
    }

-- ---- the four tests of the searches

-- x is one of the n numbers from `from` on
unfoldable pub covers : (from n x : ℕ) → Bool
covers from n x = leb from x && ltb x (from + n)

unfoldable pub is_carrier : (index : ℕ) → Numbered Carriers → Bool
is_carrier index e = covers e.index e.what.count index

unfoldable pub is_mode : (index : ℕ) → Numbered Mode → Bool
is_mode index e = eqb e.index index

unfoldable pub is_channel : (number : ℕ) → Numbered Channel → Bool
is_channel number e = eqb e.what.number number

unfoldable pub is_range : (number : ℕ) → Numbered Range → Bool
is_range number e = covers e.index e.what.count number

-- "A channel is defined when its first covering DCM range has range-defined 1."
unfoldable pub defined_by : Option (Numbered Range) → Bool
defined_by none = false
defined_by (some e) = eqb e.what.defined 1

unfoldable pub defined : List (Numbered Range) → (number : ℕ) → Bool
defined rs number = defined_by (first (is_range number) rs)

-- ---- refusals 17 to 21, in their order

-- the refusal, unless the test holds
unfoldable pub needs : Bool → (n : ℕ) → OrRefused Tuned → OrRefused Tuned
needs true n t = t
needs false n t = wrong n

-- the refusal, where nothing was found
unfoldable pub found : {R : Type 0} → Option R → (n : ℕ) → (R → OrRefused Tuned) → OrRefused Tuned
found none n f = wrong n
found (some r) n f = f r

-- hidden is type 1
unfoldable pub hidden : Channel → ℕ
hidden c = cond (eqb c.kind 1) 1 0

-- "digital (frequency, programme, mode record) or analogue (frequency, standard, scrambled), with path and hidden";
-- refusal 21: digital, and mode reference 0 or without a record
unfoldable pub tune_signal : Plant → Channel → (khz : ℕ) → Signal → OrRefused Tuned
tune_signal p c khz (Signal.Analogue scrambled standard) = right (Tuned.Analogue (hidden c) c.path khz standard scrambled)
tune_signal p c khz (Signal.Digital program mode) =
    needs (ltb 0 mode) 21
    (found (first (is_mode mode) p.modes) 21 (λ m.
    right (Tuned.Digital (hidden c) c.path khz program m.what)))

-- what the tuner reaches: 54,000 to 1,002,000 kHz
unfoldable pub in_reach : (khz : ℕ) → Bool
in_reach khz = leb 54000 khz && leb khz 1002000

-- refusal 20: frequency below 54,000 or above 1,002,000 kHz
unfoldable pub tune_khz : Plant → Channel → (khz : ℕ) → OrRefused Tuned
tune_khz p c khz = needs (in_reach khz) 20 (tune_signal p c khz c.signal)

-- refusal 19: carrier reference 0 or without a carrier
unfoldable pub tune_carrier : Plant → Channel → OrRefused Tuned
tune_carrier p c =
    needs (ltb 0 c.carrier) 19
    (found (first (is_carrier c.carrier) p.carriers) 19 (λ e.
    tune_khz p c (carrier_khz e.what (c.carrier - e.index))))

-- "An application channel answers its application number, path and hidden flag and needs no carrier."
unfoldable pub tune_channel : Plant → Channel → OrRefused Tuned
tune_channel p c =
    cond (eqb c.application 1) (right (Tuned.Application (hidden c) c.path c.source)) (tune_carrier p c)

-- refusal 17: channel not defined; refusal 18: defined, but no channel record
unfoldable pub look_up : Plant → (number : ℕ) → OrRefused Tuned
look_up p number =
    needs (defined p.ranges number) 17
    (found (first (is_channel number) p.channels) 18 (λ c.
    tune_channel p c.what))

-- ---- "For tuning: 1, 2, 14, 15, 16, then 17 to 21."

unfoldable pub tune : State → List ℕ → (number : ℕ) → OrRefused Tuned
tune s store number =
    needs (leb (store_size (limit_of s)) (length store)) 1
    (needs (well_formed s) 2
    (needs (leb number 4095) 14
    (needs (all_live s) 15
    (needs (all_read s store) 16
    (look_up (plant s store) number)))))
