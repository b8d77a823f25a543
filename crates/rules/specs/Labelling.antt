-- What the label question answers, told in words, without the rule's own search and tests: request 2026-01, "the label question refuses as tuning does by
-- 1, 2 and 14 to 18, with 16 for live names too". The words of tuning are specs/Answered.antt; of the rules it takes besides where the live names stand
-- (`live_standing`; that these are the live records, and their bytes those of the store, is `named-is`). That the rule answers so, and only so, is proofs/.
use Rattle.std.specs.Prelude.{ℕ, ◌+◌, ◌<◌, ◌≤◌, ◌≡◌, ◌⊎◌, length, take, drop}
use mathlib.Core.{Bool.true, List.List}
use Rattle.rules.specs.Layout.{Numbered}
use Rattle.rules.specs.Tables.{Name}
use Rattle.rules.specs.Section.{Structure}
use Rattle.rules.specs.Holding.{limit_of, listed, store_size, holding_of, StateFormed}
use Rattle.rules.specs.Tuning.{needed_tables, plant, live_records}
use Rattle.rules.specs.Standing.{Standing, live_standing}
use Rattle.rules.specs.Answered.{First, Nowhere, ChannelIs, RangeIs, Defined, EachLive, Reads, EachReads, Askable}
use Rattle.rules.specs.declared.Table.{Table}
use Rattle.rules.specs.declared.Table.TheVariants.{Ntt}
use Rattle.rules.specs.declared.Channel.{Channel}
use Rattle.rules.specs.declared.Range.{Range}
use Rattle.rules.specs.declared.State.{State}
use Rattle.rules.specs.declared.Labelled.{Labelled}
use Rattle.rules.specs.Refusals.{OrRefused, wrong, right}

-- "the first record with its application flag and number"
abbrev pub NameIs : (application number : ℕ) → Numbered Name → Type 0
NameIs application number e = (e.what.application ≡ application) × (e.what.number ≡ number)

abbrev pub names_in : Structure → List (Numbered Name)
names_in x = x.lists.names

-- names are live
abbrev pub NamesLive : State → Type 0
NamesLive s = (holding_of s Ntt).live.present ≡ 1

-- "16 for live names too"
pub record NamesRead (s : State) (store : List ℕ) : Type 0 where
  pub reads : NamesLive s → (n : ℕ) → n ≤ (holding_of s Ntt).live.last → Reads s store Ntt n

module _ (s : State) (store : List ℕ) (number : ℕ) where
  -- checks 1, 2, 14, 15 and 16 are passed
  pub record Labelable : Type 0 where
    pub askable : Askable s store number
    pub live : EachLive s
    pub reads : EachReads s store
    pub names : NamesRead s store

  -- and so are 17 and 18: the channel is defined, and this is its record
  pub record Recorded (c : Channel) : Type 0 where
    pub labelable : Labelable
    pub defined : Defined (plant s store) number
    pub entry : Numbered Channel
    pub first : First (ChannelIs number) (plant s store).channels entry
    pub is : c ≡ entry.what

  pub data Labelling : OrRefused Labelled → Type 0 where
    -- 1: a store shorter than all places
    short : length store < store_size (limit_of s) → Labelling (wrong 1)
    -- 2: "state not well formed"
    unformed : store_size (limit_of s) ≤ length store → (StateFormed s → ⊥) → Labelling (wrong 2)
    -- 14: "channel number above 4095"
    high : store_size (limit_of s) ≤ length store → StateFormed s → 4095 < number → Labelling (wrong 14)
    -- 15: a table that tuning needs isn't live
    not_live : Askable s store number → (EachLive s → ⊥) → Labelling (wrong 15)
    -- 16: a place of one of these, or of live names, no longer reads right
    unread : Askable s store number → EachLive s → (EachReads s store → NamesRead s store → ⊥) → Labelling (wrong 16)
    -- 17: "channel not defined"
    not_defined : Labelable → Nowhere (RangeIs number) (plant s store).ranges
        ⊎ ((r : Numbered Range) × First (RangeIs number) (plant s store).ranges r × (r.what.defined ≡ 1 → ⊥)) → Labelling (wrong 17)
    -- 18: "defined, but no channel record"
    no_record : Labelable → Defined (plant s store) number → Nowhere (ChannelIs number) (plant s store).channels → Labelling (wrong 18)
    -- "the name bytes of the first record with its application flag and number": they stand four bytes behind where the record begins
    named : {c : Channel} {x : Standing Name} → Recorded c → NamesLive s
        → First (λ y. NameIs c.application c.source y.row) (live_standing s store Ntt) x
        → Labelling (right (Labelled.Named (x.at + 4) (length x.row.what.name)))
    -- "if there is none or the table isn't live, the bytes of the fallback label"
    fallback : {c : Channel} → Recorded c
        → (NamesLive s → Nowhere (λ y. NameIs c.application c.source y.row) (live_standing s store Ntt)) → Labelling (right Labelled.Fallback)

  -- a name that is answered: it is that of the first live record with the channel's flag and number, and its bytes stand in the store
  pub record NamedBy (start size : ℕ) : Type 0 where
    pub channel : Channel
    pub recorded : Recorded channel
    pub live : NamesLive s
    pub entry : Numbered Name
    pub first : First (NameIs channel.application channel.source) (live_records names_in s store Ntt) entry
    pub inside : start + size ≤ length store
    pub bytes : take size (drop start store) ≡ entry.what.name

-- ---- what a label tells: the refusal, the name's bytes wherever they stand, or that it is the fallback

pub data LabelTold : Type 0 where
  refused : ℕ → LabelTold
  name : List ℕ → LabelTold
  lent : LabelTold

unfoldable pub told_label : (store : List ℕ) → OrRefused Labelled → LabelTold
told_label store (wrong n) = refused n
told_label store (right (Labelled.Named start size)) = name (take size (drop start store))
told_label store (right Labelled.Fallback) = lent

-- ---- "15 is unchanged, since tuning needs no names"

-- two states and stores that pass checks 1 and 2 and differ in no more than what is held of names, the language, and the store behind the first 32,768
-- bytes: the places of names
pub record ButNames (s u : State) (store other : List ℕ) : Type 0 where
  pub held : (t : Table) → listed needed_tables t ≡ true → holding_of u t ≡ holding_of s t
  pub map : u.settings.map ≡ s.settings.map
  pub roomy : store_size (limit_of s) ≤ length store
  pub good : StateFormed s
  pub other_roomy : store_size (limit_of u) ≤ length other
  pub other_good : StateFormed u
  pub front : take 32768 other ≡ take 32768 store
