-- What a channel number is tuned to, told in words, without the rule's own search and tests: document 01, "From number to tuner", and of "Numbers of
-- refusal" 1, 2 and 14 to 21. Of the rules it takes `carrier_khz`, "first + k x spacing, each in its own unit"; `hidden`, of which `hidden-is` says what
-- it is; which tables are needed, how long its store is, and where its live sections and records stand. That the rule
-- answers so, and only so, is proofs/.
use Rattle.std.specs.Prelude.{ℕ, ◌+◌, ◌-◌, ◌<◌, ◌≤◌, ◌≡◌, ◌⊎◌, true, List, ◌∷◌, ◌++◌, length}
use Rattle.std.proofs.Math.Option.{Option, none, some}
use Rattle.rules.specs.Layout.{Numbered}
use Rattle.rules.specs.Tables.{carrier_khz}
use Rattle.rules.specs.Section.{Content, right}
use Rattle.rules.specs.Holding.{limit_of, listed, store_size, section_at, holding_of, live_at, StateFormed, OtherMapped, read_for}
use Rattle.rules.specs.Tuning.{needed_tables, Plant, plant, hidden}
use Rattle.rules.specs.declared.Table.{Table}
use Rattle.rules.specs.declared.Carriers.{Carriers}
use Rattle.rules.specs.declared.Mode.{Mode}
use Rattle.rules.specs.declared.Channel.{Channel}
use Rattle.rules.specs.declared.Signal.TheVariants as Signal
use Rattle.rules.specs.declared.Range.{Range}
use Rattle.rules.specs.declared.State.{State}
use Rattle.rules.specs.declared.Tuned.{Tuned}
use Rattle.rules.specs.Refusals.{OrRefused, wrong}

-- ---- "the first match ends the search, for channels, carriers, modes and DCM ranges alike"

-- no record has the property
pub record Nowhere {R : Type 0} (P : R → Type 0) (rs : List R) : Type 0 where
  pub none : (a b : List R) (x : R) → rs ≡ a ++ (x ∷ b) → P x → ⊥

-- this record has it, and none before it
pub record First {R : Type 0} (P : R → Type 0) (rs : List R) (r : R) : Type 0 where
  pub before : List R
  pub behind : List R
  pub stands : rs ≡ before ++ (r ∷ behind)
  pub has : P r
  pub none_before : Nowhere P before

-- "Records are searched in the lowest section first": of n sections from i on, this one has the match, and none below it has one
pub record Lowest {R : Type 0} (P : R → Type 0) (sec : ℕ → List R) (n i : ℕ) (r : R) : Type 0 where
  pub section : ℕ
  pub from : i ≤ section
  pub low : section < i + n
  pub first : First P (sec section) r
  pub none_below : (m : ℕ) → i ≤ m → m < section → Nowhere P (sec m)

-- "Each carrier takes one index, counting on from the first index"
abbrev pub CarrierIs : (ref : ℕ) → Numbered Carriers → Type 0
CarrierIs ref e = (e.index ≤ ref) × (ref < e.index + e.what.count)

abbrev pub ModeIs : (ref : ℕ) → Numbered Mode → Type 0
ModeIs ref e = e.index ≡ ref

abbrev pub ChannelIs : (number : ℕ) → Numbered Channel → Type 0
ChannelIs number e = e.what.number ≡ number

-- a covering range: `count` channels from its first channel on
abbrev pub RangeIs : (number : ℕ) → Numbered Range → Type 0
RangeIs number e = (e.index ≤ number) × (number < e.index + e.what.count)

-- ---- what a channel record is tuned to

-- the frequency of the carrier that it refers to
pub record Carried (p : Plant) (c : Channel) (khz : ℕ) : Type 0 where
  pub refers : 0 < c.carrier
  pub entry : Numbered Carriers
  pub first : First (CarrierIs c.carrier) p.carriers entry
  pub is : khz ≡ carrier_khz entry.what (c.carrier - entry.index)

pub data Tunes (p : Plant) (c : Channel) : OrRefused Tuned → Type 0 where
  -- "An application channel answers its application number, path and hidden flag and needs no carrier."
  application : c.application ≡ 1 → Tunes p c (right (Tuned.Application (hidden c) c.path c.source))
  -- 19: "carrier reference 0 or without a carrier"
  no_carrier : (c.application ≡ 1 → ⊥) → (c.carrier ≡ 0) ⊎ Nowhere (CarrierIs c.carrier) p.carriers → Tunes p c (wrong 19)
  -- 20: "frequency below 54,000 or above 1,002,000 kHz"
  out_of_reach : {khz : ℕ} → (c.application ≡ 1 → ⊥) → Carried p c khz → (khz < 54000) ⊎ (1002000 < khz) → Tunes p c (wrong 20)
  -- "analogue (frequency, standard, scrambled), with path and hidden"
  analogue : {khz scrambled standard : ℕ} → (c.application ≡ 1 → ⊥) → Carried p c khz → 54000 ≤ khz → khz ≤ 1002000
      → c.signal ≡ Signal.Analogue scrambled standard
      → Tunes p c (right (Tuned.Analogue (hidden c) c.path khz standard scrambled))
  -- 21: "digital, and mode reference 0 or without a record"
  no_mode : {khz program mode : ℕ} → (c.application ≡ 1 → ⊥) → Carried p c khz → 54000 ≤ khz → khz ≤ 1002000
      → c.signal ≡ Signal.Digital program mode
      → (mode ≡ 0) ⊎ Nowhere (ModeIs mode) p.modes → Tunes p c (wrong 21)
  -- "digital (frequency, programme, mode record) .. with path and hidden"
  digital : {khz program mode : ℕ} {m : Numbered Mode} → (c.application ≡ 1 → ⊥) → Carried p c khz → 54000 ≤ khz → khz ≤ 1002000
      → c.signal ≡ Signal.Digital program mode
      → 0 < mode → First (ModeIs mode) p.modes m → Tunes p c (right (Tuned.Digital (hidden c) c.path khz program m.what))

-- ---- what a channel number is tuned to

-- "A channel is defined when its first covering DCM range has range-defined 1."
pub record Defined (p : Plant) (number : ℕ) : Type 0 where
  pub range : Numbered Range
  pub first : First (RangeIs number) p.ranges range
  pub is : range.what.defined ≡ 1

pub data Looked (p : Plant) (number : ℕ) : OrRefused Tuned → Type 0 where
  -- 17: "channel not defined"
  not_defined : Nowhere (RangeIs number) p.ranges ⊎ ((r : Numbered Range) × First (RangeIs number) p.ranges r × (r.what.defined ≡ 1 → ⊥))
      → Looked p number (wrong 17)
  -- 18: "defined, but no channel record"
  no_record : Defined p number → Nowhere (ChannelIs number) p.channels → Looked p number (wrong 18)
  recorded : {e : Numbered Channel} {t : OrRefused Tuned} → Defined p number → First (ChannelIs number) p.channels e → Tunes p e.what t → Looked p number t

-- ---- refusals 15 and 16: the live places of the tables that tuning needs

pub record EachLive (s : State) : Type 0 where
  pub live : (t : Table) → listed needed_tables t ≡ true → (holding_of s t).live.present ≡ 1

-- the place of section n of a live table "reads right as that table, map, version, number and last"
pub record Reads (s : State) (store : List ℕ) (t : Table) (n : ℕ) : Type 0 where
  pub content : Content
  pub reads : read_for s (section_at store (live_at s t n)) ≡ right content
  pub table : content.table ≡ t
  pub map : OtherMapped s content → ⊥
  pub version : content.revision.version ≡ (holding_of s t).live.version
  pub number : content.revision.number ≡ n
  pub last : content.revision.last ≡ (holding_of s t).live.last

pub record EachReads (s : State) (store : List ℕ) : Type 0 where
  pub reads : (t : Table) → listed needed_tables t ≡ true → (n : ℕ) → n ≤ (holding_of s t).live.last → Reads s store t n

-- ---- "For tuning: 1, 2, 14, 15, 16, then 17 to 21."

-- checks 1, 2 and 14 are passed
pub record Askable (s : State) (store : List ℕ) (number : ℕ) : Type 0 where
  pub roomy : store_size (limit_of s) ≤ length store
  pub good : StateFormed s
  pub low : number ≤ 4095

pub data Answered (s : State) (store : List ℕ) (number : ℕ) : OrRefused Tuned → Type 0 where
  -- 1: a store shorter than all places
  short : length store < store_size (limit_of s) → Answered s store number (wrong 1)
  -- 2: "state not well formed" (specs/Formed.antt)
  unformed : store_size (limit_of s) ≤ length store → (StateFormed s → ⊥) → Answered s store number (wrong 2)
  -- 14: "channel number above 4095"
  high : store_size (limit_of s) ≤ length store → StateFormed s → 4095 < number → Answered s store number (wrong 14)
  -- 15: a table that tuning needs isn't live
  not_live : Askable s store number → (EachLive s → ⊥) → Answered s store number (wrong 15)
  -- 16: "a place of a live table no longer reads right as that table, map, version, number and last"
  unread : Askable s store number → EachLive s → (EachReads s store → ⊥) → Answered s store number (wrong 16)
  -- 17 to 21, or what it is tuned to: by the live records
  looked_up : {x : OrRefused Tuned} → Askable s store number → EachLive s → EachReads s store → Looked (plant s store) number x → Answered s store number x

-- ---- the frequency that the tuner is sent to
unfoldable pub khz_of : OrRefused Tuned → Option ℕ
khz_of (wrong n) = none
khz_of (right (Tuned.Digital h path khz program mode)) = some khz
khz_of (right (Tuned.Analogue h path khz standard scrambled)) = some khz
khz_of (right (Tuned.Application h path source)) = none
