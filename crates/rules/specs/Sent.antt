-- From the run to the screen, told by the sections that were sent: which section of a run stands in a live place, and in which records of such sections
-- stands what a channel shows and what is printed of it. The theorems in these words are proofs/Sent.antt, of every collector, and proofs/Screen.antt.
use Rattle.std.specs.Prelude.{ℕ, ◌-◌, ◌≤◌, ◌<◌, ◌≡◌, length, take, drop}
use mathlib.Core.List.{List, [], ◌∷◌, ◌++◌, flatten}
use Rattle.rules.specs.Bytes.{from}
use Rattle.rules.specs.Layout.{Numbered}
use Rattle.rules.specs.Tables.{carrier_khz, Name}
use Rattle.rules.specs.Section.{Structure, Content, right, read_section}
use Rattle.rules.specs.Gathering.{Collector, BoxOf, answer_to, box_after, run}
use Rattle.rules.specs.Offering.{GatheredIs, Wanted}
use Rattle.rules.specs.Holding.{section_at, holding_of, live_at, Box, box, answers}
use Rattle.rules.specs.Tuning.{carriers_in, modes_in, channels_in, ranges_in, hidden, tune}
use Rattle.rules.specs.{Label.labelled, Labelling.NameIs, Labelling.names_in}
use Rattle.rules.specs.Answered.{First, Nowhere, CarrierIs, ModeIs, ChannelIs, RangeIs}
use Rattle.rules.specs.Lineup.{refusals, channel_line, heading, lines_of, lineup}
use Rattle.rules.specs.declared.Table.{Table}
use Rattle.rules.specs.declared.Table.TheVariants.{Cds, Mms, Vcm, Dcm, Ntt}
use Rattle.rules.specs.declared.Carriers.{Carriers}
use Rattle.rules.specs.declared.Mode.{Mode}
use Rattle.rules.specs.declared.Channel.{Channel}
use Rattle.rules.specs.declared.Signal.TheVariants as Signal
use Rattle.rules.specs.declared.Range.{Range}
use Rattle.rules.specs.declared.Answer.TheVariants.{Live}
use Rattle.rules.specs.declared.Tuned.{Tuned}
use Rattle.rules.specs.declared.Labelled.TheVariants as Labelled
use Rattle.rules.specs.Refusals.{OrRefused, wrong}

-- ---- a live section was sent

module _ {T S C : Type 0} (co : Collector T S C) where
  open co use {holding as held_of}

  -- a box is so after each of these offers
  abbrev pub Throughout : (BoxOf S → Type 0) → BoxOf S → (sections : List (List ℕ)) → Type 0
  Throughout So b [] = Unit {0}
  Throughout So b (x ∷ xs) = So (box_after co b x) × Throughout So (box_after co b x) xs

  -- section n of the version that a run left live of a table: this is, byte for byte, a section of the run, the first one that read right for our map
  -- with that version, number and last since its gathering began
  pub record SentAs (b : BoxOf S) (sections : List (List ℕ)) (t : T) (n : ℕ) (section : List ℕ) : Type 0 where
    pub version : ℕ
    pub last : ℕ
    -- the run: what came before, what came while the version was gathered, the section that completed it, and what came behind
    pub before : List (List ℕ)
    pub meanwhile : List (List ℕ)
    pub completing : List ℕ
    pub behind : List (List ℕ)
    pub is_run : sections ≡ before ++ (meanwhile ++ (completing ∷ behind))
    -- the gathering began with the first that came behind `before`, went on up to the one that completed it, and what then was live has stayed so
    pub not_yet : GatheredIs (held_of (run co b before).state t) version → ⊥
    pub goes_on : Throughout (λ x. GatheredIs (held_of x.state t) version) (run co b before) meanwhile
    pub completing_number : ℕ
    pub completing_is : Wanted co b.state t version last completing_number completing
    pub completes : answer_to co (run co b (before ++ meanwhile)) completing ≡ right (Live version)
    pub stays : Throughout (λ x. (held_of x.state t).live ≡ record { present = 1; version = version; last = last })
        (run co b (before ++ meanwhile)) (completing ∷ behind)
    pub first : First (Wanted co b.state t version last n) (meanwhile ++ (completing ∷ [])) section

-- ---- what a channel shows was sent

module _ (b : Box) (sections : List (List ℕ)) where
  -- the first of a table's live records that has a property: it stands in a section that was sent, no record above it there has the property, and none
  -- of a live section with a lower number
  pub record RecordSent {R : Type 0} (P : R → Type 0) (records : Structure → List R) (t : Table) (r : R) : Type 0 where
    pub number : ℕ
    pub section : List ℕ
    pub sent : SentAs box b sections t number section
    pub content : Content
    pub reads : read_section section ≡ right content
    pub above : List R
    pub below : List R
    pub stands : records content.structure ≡ above ++ (r ∷ below)
    pub has : P r
    pub none_above : Nowhere P above
    pub none_lower : (m : ℕ) → m < number → (x : List ℕ) → SentAs box b sections t m x → (d : Content) → read_section x ≡ right d
        → Nowhere P (records d.structure)

  -- of a channel number: the first range that covers it, which defines it, and the first channel record with that very number
  pub record ChannelSent (number : ℕ) (c : Channel) : Type 0 where
    pub range : Numbered Range
    pub range_sent : RecordSent (RangeIs number) ranges_in Dcm range
    pub defined : range.what.defined ≡ 1
    pub entry : Numbered Channel
    pub sent : RecordSent (ChannelIs number) channels_in Vcm entry
    pub is : c ≡ entry.what

  -- of a channel record: the frequency of the carrier that it refers to, by the first record that has it, in the tuner's reach
  pub record FrequencySent (c : Channel) (khz : ℕ) : Type 0 where
    pub refers : 0 < c.carrier
    pub entry : Numbered Carriers
    pub sent : RecordSent (CarrierIs c.carrier) carriers_in Cds entry
    pub is : khz ≡ carrier_khz entry.what (c.carrier - entry.index)
    pub low : 54000 ≤ khz
    pub high : khz ≤ 1002000

  -- and the mode of its mode reference
  pub record ModeSent (reference : ℕ) (m : Mode) : Type 0 where
    pub refers : 0 < reference
    pub entry : Numbered Mode
    pub sent : RecordSent (ModeIs reference) modes_in Mms entry
    pub is : m ≡ entry.what

  -- what a channel number is tuned to
  pub data Screen (number : ℕ) : OrRefused Tuned → Type 0 where
    refused : {n : ℕ} → Screen number (wrong n)
    application : {c : Channel} → ChannelSent number c → c.application ≡ 1 → Screen number (right (Tuned.Application (hidden c) c.path c.source))
    analogue : {c : Channel} {khz scrambled standard : ℕ} → ChannelSent number c → (c.application ≡ 1 → ⊥)
        → c.signal ≡ Signal.Analogue scrambled standard → FrequencySent c khz
        → Screen number (right (Tuned.Analogue (hidden c) c.path khz standard scrambled))
    digital : {c : Channel} {khz program reference : ℕ} {m : Mode} → ChannelSent number c → (c.application ≡ 1 → ⊥)
        → c.signal ≡ Signal.Digital program reference → FrequencySent c khz → ModeSent reference m
        → Screen number (right (Tuned.Digital (hidden c) c.path khz program m))

  -- the bytes of a name that labels a channel: its channel record was sent, and so was the first name record with its flag and number
  pub record LabelSent (number : ℕ) (bytes : List ℕ) : Type 0 where
    pub channel : Channel
    pub channel_sent : ChannelSent number channel
    pub entry : Numbered Name
    pub sent : RecordSent (NameIs channel.application channel.source) names_in Ntt entry
    pub is : bytes ≡ entry.what.name

  -- a printed line of a channel
  pub record LineSent (line : List ℕ) : Type 0 where
    pub number : ℕ
    pub low : number ≤ 4095
    pub is : channel_line number (tune (run box b sections).state (run box b sections).store number) ≡ line ∷ []
    pub screen : Screen number (tune (run box b sections).state (run box b sections).store number)

-- ---- from the run to the screen

-- of a box, after a run: every live section is a section of the run, what every channel number is tuned to comes from records of such sections, and so
-- does every name that labels a channel, and every line that is printed of one
pub record RunToScreen (b : Box) (sections : List (List ℕ)) : Type 0 where
  pub live : (t : Table) → (holding_of (run box b sections).state t).live.present ≡ 1 → (n : ℕ) → n ≤ (holding_of (run box b sections).state t).live.last
      → SentAs box b sections t n (section_at (run box b sections).store (live_at (run box b sections).state t n))
  pub tuned : (number : ℕ) → Screen b sections number (tune (run box b sections).state (run box b sections).store number)
  pub labelled : (number start size : ℕ) → labelled (run box b sections).state (run box b sections).store number ≡ right (Labelled.Named start size)
      → LabelSent b sections number (take size (drop start (run box b sections).store))
  pub printed : (above below : List (List ℕ)) (line : List ℕ) → lines_of (run box b sections) ≡ above ++ (line ∷ below) → LineSent b sections line

-- of an input: its line-up is a heading and the lines of the channels, of a fresh box to which its sections were sent, and these are all its bytes
-- behind the map number
pub record LineupSent (input : List ℕ) (start : Box) (sections : List (List ℕ)) : Type 0 where
  pub is : lineup input
      ≡ heading (run box start sections).state (length sections) (refusals (answers start sections)) (length (lines_of (run box start sections)))
      ++ flatten (lines_of (run box start sections))
  pub to_screen : RunToScreen start sections
  pub all_bytes : flatten sections ≡ from input 2
