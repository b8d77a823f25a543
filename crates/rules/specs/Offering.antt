-- What an offer answers and leaves, told in words, of every collector (`Gathering`): the checks in their order, what is taken in, what goes live,
-- and the promise of going live. The theorems about gathering are stated in these words; that the rules meet them is proofs/.
use Rattle.std.specs.Prelude.{ℕ, ◌+◌, ◌<◌, ◌≤◌, ◌≡◌, ◌⊎◌, Bool, true, false, List, [], ◌∷◌, length}
use Rattle.std.proofs.Math.Option.{some}
use Rattle.std.specs.Int.Count.{ones}
use Rattle.rules.specs.Steps.{holds, is_live, is_gathered, holding_formed, has_other_last, is_repeat, held_with}
use Rattle.rules.specs.Gathering.{Collector, BoxOf, store_size, gathered_at, put, touches, box_after}
use Rattle.rules.specs.declared.Holding.{Holding}
use Rattle.rules.specs.declared.Revision.{Revision}
use Rattle.rules.specs.declared.Answer.{Answer}
use Rattle.rules.specs.declared.Answer.TheVariants.{OtherMap, Repeat, Stored, Live}
use Rattle.rules.specs.Refusals.{OrRefused, wrong, right}

-- the answer of step 6 where a version goes live
abbrev pub is_going_live : OrRefused Answer → Bool
is_going_live (wrong n) = false
is_going_live (right OtherMap) = false
is_going_live (right Repeat) = false
is_going_live (right (Stored missing)) = false
is_going_live (right (Live v)) = true

-- ---- one table: what is held of it, and a section

-- what is live, and the half
pub record SameLive (u h : Holding) : Type 0 where
  pub live : u.live ≡ h.live
  pub half : u.half ≡ h.half

-- a table's live version, and the gathered one
abbrev pub LiveIs : Holding → (v : ℕ) → Type 0
LiveIs h v = (h.live.present ≡ 1) × (h.live.version ≡ v)

abbrev pub GatheredIs : Holding → (v : ℕ) → Type 0
GatheredIs h v = (h.gathered.present ≡ 1) × (h.gathered.version ≡ v)

module _ (h : Holding) (r : Revision) where
  -- step 3: "v live or being gathered with a different last"
  abbrev pub OtherLast : Type 0
  OtherLast =
      (LiveIs h r.version × (h.live.last ≡ r.last → ⊥))
      ⊎ (GatheredIs h r.version × (h.gathered.last ≡ r.last → ⊥))

  -- step 4: "v live, or n already held for the gathered v"
  abbrev pub Repeated : Type 0
  Repeated = LiveIs h r.version ⊎ (GatheredIs h r.version × (holds h.gathered.held r.number ≡ true))

  -- number k is held with this section: its own, or held before of the gathered v
  abbrev pub NowHas : (k : ℕ) → Type 0
  NowHas k = (k ≡ r.number) ⊎ (GatheredIs h r.version × (holds h.gathered.held k ≡ true))

  -- what a section that reads right and a well-formed state give, for every limit
  pub record Sound (limit : ℕ) : Type 0 where
    pub good : holding_formed limit h ≡ true
    pub version : r.version ≤ 31
    pub number : r.number ≤ r.last

  -- past steps 2 and 3
  pub record Ready (limit : ℕ) : Type 0 where
    pub sound : Sound limit
    pub low : r.last < limit
    pub apart : has_other_last h r ≡ false

  -- past step 4: steps 5 and 6 take it in
  pub record Taking (limit : ℕ) : Type 0 where
    pub ready : Ready limit
    pub new : is_repeat h r ≡ false

  -- it went live as v: v was not live, all of 0 to last are there, nothing is gathered then, and the halves change roles
  pub record WentLive (v : ℕ) (u : Holding) : Type 0 where
    pub version : v ≡ r.version
    pub new : is_live h r.version ≡ false
    pub complete : (k : ℕ) → k ≤ r.last → NowHas k
    pub live : u.live ≡ record { present = 1; version = r.version; last = r.last }
    pub gathered : u.gathered ≡ record { present = 0; version = 0; last = 0; held = 0 }
    pub half : u.half + h.half ≡ 1

  -- it joined, and so many are missing: "it must be last + 1 less those held"
  pub record Joined (missing : ℕ) (u : Holding) : Type 0 where
    pub some : 1 ≤ missing
    pub sum : missing + ones u.gathered.held ≡ r.last + 1
    pub gathered : u.gathered ≡ record { present = 1; version = r.version; last = r.last; held = u.gathered.held }
    pub held : (k : ℕ) → holds u.gathered.held k ≡ true → NowHas k
    pub all : (k : ℕ) → NowHas k → holds u.gathered.held k ≡ true
    pub live : SameLive u h

-- "neither the live nor the gathered table has that version with another last number"
pub record NoOtherLast (v last : ℕ) (h : Holding) : Type 0 where
  pub live : is_live h v ≡ true → h.live.last ≡ last
  pub gathered : is_gathered h v ≡ true → h.gathered.last ≡ last

module _ {T S C : Type 0} (co : Collector T S C) where
  open co use {holding as holding_of, limit as limit_of, Formed as WellFormed, read as read_for, table as table_of, revision as revision_of, Aside, word}

  -- ---- one offer

  -- "state and store pass checks 1 and 2"
  pub record Checked (b : BoxOf S) : Type 0 where
    pub roomy : store_size co (limit_of b.state) ≤ length b.store
    pub good : WellFormed b.state

  -- these are passed, and the section reads right and is not set aside
  pub record Passed (s : S) (store section : List ℕ) (c : C) : Type 0 where
    pub roomy : store_size co (limit_of s) ≤ length store
    pub good : WellFormed s
    pub reads : read_for s section ≡ right c
    pub ours : Aside s c → ⊥

  -- a section that does not touch a table
  abbrev pub NotOf : S → (t : T) → (section : List ℕ) → Type 0
  NotOf s t section = touches co s section ≡ some t → ⊥

  module _ (b : BoxOf S) (section : List ℕ) where
    -- what a section that is taken in has passed, and where it is put
    pub record TakenIn (c : C) : Type 0 where
      pub passed : Passed b.state b.store section c
      pub taking : Taking (holding_of b.state (table_of c)) (revision_of c) (limit_of b.state)
      pub fits : gathered_at co b.state (table_of c) (revision_of c).number + length section ≤ length b.store
      pub stored : (box_after co b section).store ≡ put b.store (gathered_at co b.state (table_of c) (revision_of c).number) section

    -- *live*: the offered version was not live and is complete with this section, and it is live now with its last number
    pub record NowLive (v : ℕ) : Type 0 where
      pub content : C
      pub reads : read_for b.state section ≡ right content
      pub went : WentLive (holding_of b.state (table_of content)) (revision_of content) v (holding_of (box_after co b section).state (table_of content))

    -- *stored*: the number named is at least 1, and is last + 1 less those held now
    pub record NowHeld (missing : ℕ) : Type 0 where
      pub content : C
      pub reads : read_for b.state section ≡ right content
      pub joined : Joined (holding_of b.state (table_of content)) (revision_of content) missing (holding_of (box_after co b section).state (table_of content))

    -- past steps 1 to 4
    pub record New (c : C) : Type 0 where
      pub passed : Passed b.state b.store section c
      pub low : (revision_of c).last < limit_of b.state
      pub same_last : OtherLast (holding_of b.state (table_of c)) (revision_of c) → ⊥
      pub not_yet : Repeated (holding_of b.state (table_of c)) (revision_of c) → ⊥

  -- ---- "For a section (v, n, last) that reads right, in this order" steps 1 to 6, behind refusals 1 to 11; 2 and step 1 by the collector's own words

  pub data Offering (b : BoxOf S) (section : List ℕ) : OrRefused Answer → Type 0 where
    -- 1: a store shorter than all places
    short : length b.store < store_size co (limit_of b.state) → Offering b section (wrong 1)
    -- 2: "state not well formed", by the collector's own words
    unformed : store_size co (limit_of b.state) ≤ length b.store → (WellFormed b.state → ⊥) → Offering b section (wrong 2)
    -- 3 to 11: the section does not read right
    unread : {n : ℕ} → Checked b → read_for b.state section ≡ wrong n → Offering b section (wrong n)
    -- step 1: set aside by a word
    set_aside : {c : C} → Checked b → read_for b.state section ≡ right c → Aside b.state c → Offering b section (word b.state c)
    -- step 2: last not below the limit: refusal 12
    high_last : {c : C} → Passed b.state b.store section c → limit_of b.state ≤ (revision_of c).last → Offering b section (wrong 12)
    -- step 3: refusal 13
    other_last : {c : C} → Passed b.state b.store section c → (revision_of c).last < limit_of b.state
        → OtherLast (holding_of b.state (table_of c)) (revision_of c) → Offering b section (wrong 13)
    -- step 4: *repeat*
    repeated : {c : C} → Passed b.state b.store section c → (revision_of c).last < limit_of b.state
        → (OtherLast (holding_of b.state (table_of c)) (revision_of c) → ⊥) → Repeated (holding_of b.state (table_of c)) (revision_of c)
        → Offering b section (right Repeat)
    -- step 6: "If all of 0 to last are held"
    live : {c : C} → New b section c → ((k : ℕ) → k ≤ (revision_of c).last → NowHas (holding_of b.state (table_of c)) (revision_of c) k)
        → Offering b section (right (Live (revision_of c).version))
    -- "Else stored, with how many sections are still missing": of 0 to last one is not held, and the number named is last + 1 less those held
    stored : {c : C} {missing k : ℕ} → New b section c → k ≤ (revision_of c).last → (NowHas (holding_of b.state (table_of c)) (revision_of c) k → ⊥)
        → missing + ones (held_with (holding_of b.state (table_of c)) (revision_of c)) ≡ (revision_of c).last + 1 → Offering b section (right (Stored missing))

  -- ---- the promise: "Sections 0 to last of one version, all reading right with that last and for our map, each offered in any order with no other
  -- version of that table between them, leave it live by the last of them, if state and store pass checks 1 and 2, last is at most 3 and neither
  -- the live nor the gathered table has that version with another last number."

  module _ (start : S) (t : T) (v last : ℕ) where
    -- section n of the version: it reads right with that last and for our map
    pub record Wanted (n : ℕ) (section : List ℕ) : Type 0 where
      pub content : C
      pub reads : read_for start section ≡ right content
      pub ours : Aside start content → ⊥
      pub table : table_of content ≡ t
      pub revision : revision_of content ≡ record { version = v; number = n; last = last }

    -- section n of the version is among them
    abbrev pub Among : (n : ℕ) → (sections : List (List ℕ)) → Type 0
    Among n [] = ⊥
    Among n (x ∷ xs) = Wanted n x ⊎ Among n xs

    -- no other version of the table: whatever reads right, is for our map and of the table, and has a last number that is not
    -- refused as 12, is of that version
    pub record NoOther (section : List ℕ) : Type 0 where
      pub only : (c : C) → read_for start section ≡ right c → (Aside start c → ⊥) → table_of c ≡ t → (revision_of c).last < limit_of start
          → (revision_of c).version ≡ v

    abbrev pub NoneOther : (sections : List (List ℕ)) → Type 0
    NoneOther [] = Unit {0}
    NoneOther (x ∷ xs) = NoOther x × NoneOther xs

  -- what it asks for: state and store pass checks 1 and 2, last is below the limit, neither the live nor the gathered table
  -- has that version with another last, and sections 0 to last are offered
  pub record Promised (b : BoxOf S) (t : T) (v last : ℕ) (sections : List (List ℕ)) : Type 0 where
    pub checks : Checked b
    pub low : last < limit_of b.state
    pub same : NoOtherLast v last (holding_of b.state t)
    pub all : (n : ℕ) → n ≤ last → Among b.state t v last n sections
