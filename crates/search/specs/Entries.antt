-- The first record of a live table that goes by a number, and its entry: a number that says where in the store the record stands, and with
-- which index.
use Rattle.std.specs.Prelude.{ℕ, zero, suc, ◌+◌, ◌*◌, ◌/◌, ◌%◌, ◌^◌, ◌≡◌, Bool, true, false, List, take}
use Rattle.std.proofs.Math.Option.{Option, none, some}
use Rattle.rules.specs.{Bytes.Got, Bytes.from, Descriptors.counted}
use Rattle.rules.specs.Layout.{extent, Layout, Numbered}
use Rattle.rules.specs.Tables.{carriers_of, cds, channel_of, vcm, range_of, dcm}
use Rattle.rules.specs.{Form.form, Section.Structure, Search.first, Standing.Standing, Standing.live_standing}
use Rattle.rules.specs.{declared.Table.Table, declared.State.State}
use Rattle.rules.specs.Holding.{limit_of, holding_of, holding_formed}
use Rattle.rules.specs.Tuning.{table_reads, is_carrier, is_mode, is_channel, is_range}
use Rattle.rules.specs.declared.Table.TheVariants.{Cds, Mms, Vcm, Dcm, Ntt}
use Rattle.rules.specs.Refusals.{OrRefused, wrong, right}
use Rattle.fields.specs.{Outline.layout_of, declared.Outline.Outline}
use Rattle.search.specs.declared.Span.{Span}

-- what a search may rely on: checks 2 and 16 of the table
pub record Live (s : State) (store : List ℕ) (t : Table) : Type 0 where
  pub formed : holding_formed (limit_of s) (holding_of s t) ≡ true
  pub reads : table_reads s store t ≡ true

abbrev pub RecordOf : Table → Type 0
RecordOf t = (form t).Row

abbrev pub records_of : (t : Table) → Structure → List (Numbered (RecordOf t))
records_of t x = (form t).rows_in x.lists

-- ---- the numbers that a record goes by

-- whether it goes by a number; a name goes by two, its flag and its number (`is_name`)
abbrev pub test_of : (t : Table) → (number : ℕ) → Numbered (RecordOf t) → Bool
test_of Cds = is_carrier
test_of Mms = is_mode
test_of Vcm = is_channel
test_of Dcm = is_range
test_of Ntt = λ number e. false

-- the numbers that the record at the front of the bytes goes by, and how many indices it takes
unfoldable pub span_of : Table → (index : ℕ) → List ℕ → Span
span_of Cds index bs =
    let c = carriers_of (take cds.block.size bs) in
    record { first = index; count = c.count; takes = c.count }
span_of Mms index bs = record { first = index; count = 1; takes = 1 }
span_of Vcm index bs = record { first = (channel_of (take (vcm 0).block.size bs)).number; count = 1; takes = 0 }
span_of Dcm index bs =
    let r = range_of (take dcm.block.size bs) in
    record { first = index; count = r.count; takes = r.count }
span_of Ntt index bs = record { first = 0; count = 0; takes = 0 }

-- ---- where the records of a live section are

-- what is left behind the record at a place and its descriptors
abbrev pub descriptors : (t : Table) (included : ℕ) (b : List ℕ) (at : ℕ) → Got (Unit {0})
descriptors t included b at = counted (layout_of t included).described (from b (at + extent (layout_of t included).block (from b at)))

-- a section that reads right has no refusal there
unfoldable pub outline_in : OrRefused Outline → Outline
outline_in (wrong n) = record { at = 0; map = 0; first = 0; count = 0; included = 0 }
outline_in (right o) = o

-- what a search asks of a record's bytes is the same of two layouts: how many they are, whether descriptors follow, how many indices it takes
pub record Alike {Q R : Type 0} (l : Layout Q) (m : Layout R) : Type 0 where
  pub size : (bs : List ℕ) → extent l.block bs ≡ extent m.block bs
  pub described : l.described ≡ m.described
  pub takes : (bs : List ℕ) → l.takes (l.block.look bs) ≡ m.takes (m.block.look bs)

-- ---- entries

-- 0 for none; else one more than the place (below 32 bits) and the index
unfoldable pub entry_number : {R : Type 0} → Option (Standing R) → ℕ
entry_number none = 0
entry_number (some x) = 1 + x.at + x.row.index * 2 ^ 32

-- the first of the live records, lowest section first, that passes a test; and that goes by a number
unfoldable pub entry_by : State → List ℕ → (t : Table) → (Numbered (RecordOf t) → Bool) → ℕ
entry_by s store t test = entry_number (first (λ x. test x.row) (live_standing s store t))

unfoldable pub entry_of : State → List ℕ → (t : Table) → (number : ℕ) → ℕ
entry_of s store t number = entry_by s store t (test_of t number)

-- the record that an entry names
unfoldable pub record_named : (t : Table) → (store : List ℕ) → (entry : ℕ) → Option (Numbered (RecordOf t))
record_named t store zero = none
record_named t store (suc n) =
    let bs = from store (n % 2 ^ 32) in
    some (record { index = n / 2 ^ 32; what = (layout_of t 0).block.look (take (extent (layout_of t 0).block bs) bs) })
