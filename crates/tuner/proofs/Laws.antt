-- What the checks leave, and each stage of a look-up as the rule has it.
use Prim.Native.Nat.{ℕ, ◌<◌, ◌≤◌, ◌-◌}
use native.Mathlib.Omega.{arith}
use mathlib.Core.Path.{◌≡◌, refl, sym, ap, ◌∙◌}
use mathlib.Core.Bool.{Bool, true, false, cond}
use mathlib.Core.List.{List}
use mathlib.Core.Option.{Option, none, some}
use mathlib.Core.Logic.{◌⊎◌, inl, inr}
use lib.{ListN.length, Dec.leb}
use borrow.Author.Tests.{le-leb, lt-leb, leb-true, leb-false, lt-ltb}
use Rattle.std.specs.Prelude as std
use Rattle.rules.specs.Refusals.{OrRefused, wrong, right, number}
use Rattle.rules.specs.Holding.{limit_of, listed, store_size, well_formed}
use Rattle.rules.specs.{Layout.Numbered, Tables.carrier_khz, Search.first}
use Rattle.rules.specs.{declared.Carriers.Carriers, declared.Mode.Mode, declared.Channel.Channel, declared.Signal.Signal}
use Rattle.rules.specs.declared.Refusal.{Refusal}
use Rattle.rules.specs.{declared.Table.Table, declared.State.State, declared.Tuned.Tuned}
use Rattle.rules.specs.Tuning.{Plant, live_records, needed_tables, all_live, table_reads, all_read, plant, is_carrier, is_mode, is_channel}
use Rattle.rules.specs.Tuning.{defined_by, defined, needs, found, hidden, tune_signal, tune_khz, tune_carrier, tune_channel, look_up, tune}
use Rattle.rules.specs.declared.Table.TheVariants.{Cds, Mms, Vcm, Dcm}
use Rattle.rules.proofs.{Taken.differ, Refusals.same-number, States.table_formed, States.each_at}
use Rattle.search.specs.Entries.{Live, records_of, test_of, entry_of, record_named}
use Rattle.search.specs.Found.{carrier_found, mode_found, channel_found}
use Rattle.search.proofs.Named.{entry-names}
use Rattle.tuner.specs.Checks.{checks, checked_as}
use Rattle.tuner.proofs.Order.{Check, Ask}
use Rattle.tuner.proofs.Order as order

-- ---- what the checks leave

pub record Passed (s : State) (store : List ℕ) : Type 0 where
  pub roomy : store_size (limit_of s) ≤ length store
  pub good : well_formed s ≡ true
  pub live : all_live s ≡ true
  pub reads : all_read s store ≡ true

passes : (b : Bool) (m n : ℕ) → cond b m n ≡ 0 → 0 < n → (b ≡ true) × (m ≡ 0)
passes true m n e h = (refl, e)
passes false m n e h = absurd (omega (arith, e))

pub passed : (s : State) (store : List ℕ) → checks s store ≡ 0 → Passed s store
unfolding checks
passed s store e =
    let one = passes (leb (store_size (limit_of s)) (length store)) _ 1 e (omega arith) in
    let two = passes (well_formed s) _ 2 one.1 (omega arith) in
    let fifteen = passes (all_live s) _ 15 two.1 (omega arith) in
    let sixteen = passes (all_read s store) 0 16 fifteen.1 (omega arith) in
    record { roomy = leb-true (store_size (limit_of s)) (length store) one.0; good = two.0; live = fifteen.0; reads = sixteen.0 }

-- every table that tuning needs can be searched
pub searchable : (s : State) (store : List ℕ) → checks s store ≡ 0 → (t : Table) → listed needed_tables t ≡ true → Live s store t
unfolding all_read
searchable s store e t h =
    record { formed = table_formed s t (passed s store e).good; reads = each_at needed_tables (table_reads s store) (passed s store e).reads t h }

-- the entry of a number names what the plant has under it
module _ (s : State) (store : List ℕ) (e : checks s store ≡ 0) {entry : ℕ} (x : ℕ) where
  found-by : (t : Table) → listed needed_tables t ≡ true → entry ≡ entry_of s store t x
      → record_named t store entry ≡ first (test_of t x) (live_records (records_of t) s store t)
  found-by t h n = ap (record_named t store) n ∙ entry-names s store t (searchable s store e t h) x

  pub range_by : entry ≡ entry_of s store Dcm x → {r : Bool} → r ≡ defined_by (record_named Dcm store entry) → r ≡ defined (plant s store).ranges x
  unfolding plant defined
  range_by n q = q ∙ ap defined_by (found-by Dcm refl n)

  pub channel_by : entry ≡ entry_of s store Vcm x → {r : std.Option Channel} → r ≡ channel_found (record_named Vcm store entry)
      → r ≡ channel_found (first (is_channel x) (plant s store).channels)
  unfolding plant
  channel_by n q = q ∙ ap channel_found (found-by Vcm refl n)

  pub carrier_by : entry ≡ entry_of s store Cds x → {r : std.Option ℕ} → r ≡ carrier_found x (record_named Cds store entry)
      → r ≡ carrier_found x (first (is_carrier x) (plant s store).carriers)
  unfolding plant
  carrier_by n q = q ∙ ap (carrier_found x) (found-by Cds refl n)

  pub mode_by : entry ≡ entry_of s store Mms x → {r : std.Option Mode} → r ≡ mode_found (record_named Mms store entry)
      → r ≡ mode_found (first (is_mode x) (plant s store).modes)
  unfolding plant
  mode_by n q = q ∙ ap mode_found (found-by Mms refl n)

-- ---- the stages of a look-up: what a search answers, none or a record, decides each

abbrev answered : {K : Type 0} → std.Option K → ℕ → (K → OrRefused Tuned) → OrRefused Tuned
answered std.None n f = wrong n
answered (std.Some k) n f = f k

mode-found : (o : Option (Numbered Mode)) (n : ℕ) (f : Mode → OrRefused Tuned) → found o n (λ e. f e.what) ≡ answered (mode_found o) n f
unfolding found mode_found
mode-found none n f = refl
mode-found (some e) n f = refl

carrier-found : (index : ℕ) (o : Option (Numbered Carriers)) (n : ℕ) (f : ℕ → OrRefused Tuned)
    → found o n (λ e. f (carrier_khz e.what (index - e.index))) ≡ answered (carrier_found index o) n f
unfolding found carrier_found
carrier-found index none n f = refl
carrier-found index (some e) n f = refl

channel-found : (o : Option (Numbered Channel)) (n : ℕ) (f : Channel → OrRefused Tuned) → found o n (λ e. f e.what) ≡ answered (channel_found o) n f
unfolding found channel_found
channel-found none n f = refl
channel-found (some e) n f = refl

pub digital : (p : Plant) (c : Channel) (khz program mode : ℕ) (r : std.Option Mode) → r ≡ mode_found (first (is_mode mode) p.modes) → (mode ≡ 0 → ⊥)
    → answered r 21 (λ m. right (Tuned.Digital (hidden c) c.path khz program m)) ≡ tune_signal p c khz (Signal.Digital program mode)
unfolding tune_signal needs
digital p c khz program mode r e ne =
    rw (lt-ltb 0 mode (omega arith), e) (sym (mode-found (first (is_mode mode) p.modes) 21
    (λ m. right (Tuned.Digital (hidden c) c.path khz program m))))

pub carrier : (p : Plant) (c : Channel) (r : std.Option ℕ) → r ≡ carrier_found c.carrier (first (is_carrier c.carrier) p.carriers)
    → (c.carrier ≡ 0 → ⊥) → answered r 19 (tune_khz p c) ≡ tune_carrier p c
unfolding tune_carrier needs
carrier p c r e ne =
    rw (lt-ltb 0 c.carrier (omega arith), e) (sym (carrier-found c.carrier (first (is_carrier c.carrier) p.carriers) 19 (tune_khz p c)))

pub channel : (p : Plant) (number : ℕ) (r : std.Option Channel) → r ≡ channel_found (first (is_channel number) p.channels)
    → defined p.ranges number ≡ true → answered r 18 (tune_channel p) ≡ look_up p number
unfolding look_up needs
channel p number r e d = rw (d, e) (sym (channel-found (first (is_channel number) p.channels) 18 (tune_channel p)))

-- ---- tuning is the checks and the look-up

module _ (s : State) (store : List ℕ) (number : ℕ) (e : checks s store ≡ 0) where
  pub too-high : 4095 < number → wrong 14 ≡ tune s store number
  unfolding tune needs
  too-high h = let p = passed s store e in simp (le-leb (store_size (limit_of s)) (length store) p.roomy, p.good, lt-leb number 4095 h)

  pub looked_up : number ≤ 4095 → look_up (plant s store) number ≡ tune s store number
  unfolding tune needs
  looked_up h =
      let p = passed s store e in
      simp (le-leb (store_size (limit_of s)) (length store) p.roomy, p.good, le-leb number 4095 h, p.live, p.reads)

-- ---- a refusal of the checks

-- the number of a refusal is that of the checks, and not 0, which refuses nothing
refuses : (k : ℕ) (roomy good live reads : Bool) → wrong k ≡ checked_as (Check roomy good live reads)
    → (k ≡ Check roomy good live reads) × (k ≡ 0 → ⊥)
refuses k false good live reads e = let z : k ≡ 1 = cc in (z, λ q. omega (arith, z, q))
refuses k true false live reads e = let z : k ≡ 2 = cc in (z, λ q. omega (arith, z, q))
refuses k true true false reads e = let z : k ≡ 15 = cc in (z, λ q. omega (arith, z, q))
refuses k true true true false e = let z : k ≡ 16 = cc in (z, λ q. omega (arith, z, q))
refuses k true true true true e = let z : ◌≡◌ {A = ℕ} 0 1 = cc in absurd (omega arith)

-- where a check is not passed, of every question that refuses by a number, tuning or another
module _ {A : Type 0} (ask : Bool → ℕ → OrRefused A → OrRefused A) (yes : (n : ℕ) (t : OrRefused A) → ask true n t ≡ t)
    (no : (n : ℕ) (t : OrRefused A) → ask false n t ≡ wrong n) (t : OrRefused A) (k : ℕ) where
  abbrev Asked : (roomy good low live reads : Bool) → OrRefused A
  Asked = Ask wrong ask yes no t k

  pub high : (roomy good low live reads : Bool) → wrong k ≡ checked_as (Check roomy good live reads) → 14 ≤ k → low ≡ false
      → wrong 14 ≡ Asked roomy good low live reads
  high roomy good low live reads e h f =
      let r = refuses k roomy good live reads e in order.high wrong ask yes no t k roomy good low live reads r.0 h f

  pub other : (roomy good low live reads : Bool) → wrong k ≡ checked_as (Check roomy good live reads)
      → (low ≡ false → (k ≡ 15) ⊎ (k ≡ 16) → ⊥) → wrong k ≡ Asked roomy good low live reads
  other false good low live reads e f =
      let r = refuses k false good live reads e in order.early wrong ask yes no t k false good low live reads r.0 r.1 (omega (arith, r.0))
  other true false low live reads e f =
      let r = refuses k true false live reads e in order.early wrong ask yes no t k true false low live reads r.0 r.1 (omega (arith, r.0))
  other true true false false reads e f = absurd (f refl (inl (refuses k true true false reads e).0))
  other true true false true false e f = absurd (f refl (inr (refuses k true true true false e).0))
  other true true true false reads e f =
      let r = refuses k true true false reads e in order.late wrong ask yes no t k true true true false reads r.0 r.1 (omega (arith, r.0)) refl
  other true true true true false e f =
      let r = refuses k true true true false e in order.late wrong ask yes no t k true true true true false r.0 r.1 (omega (arith, r.0)) refl
  other true true low true true e f = absurd ((refuses k true true true true e).1 (refuses k true true true true e).0)

-- 15 and 16, as the code names them
abbrev pub Late : Refusal → Type 0
Late r = (r ≡ Refusal.NotLive) ⊎ (r ≡ Refusal.Unreadable)

pub late : {r : Refusal} → Late r → 14 < number r
late (inl e) = rw e (omega arith)
late (inr e) = rw e (omega arith)

so-late : (r : Refusal) → (number r ≡ 15) ⊎ (number r ≡ 16) → Late r
so-late r (inl e) = inl (same-number r Refusal.NotLive e)
so-late r (inr e) = inr (same-number r Refusal.Unreadable e)

-- no channel number above 4095 comes so far
pub not-late : (n : ℕ) (r : Refusal) → (r ≡ Refusal.NotLive → n ≤ 4095) → (r ≡ Refusal.Unreadable → n ≤ 4095) → leb n 4095 ≡ false
    → (number r ≡ 15) ⊎ (number r ≡ 16) → ⊥
not-late n r f g h q = elim (so-late r q) [ inl a ↦ omega (arith, leb-false n 4095 h, f a) | inr b ↦ omega (arith, leb-false n 4095 h, g b) ]

needed : (n : ℕ) (t : OrRefused Tuned) → needs true n t ≡ t
unfolding needs
needed n t = refl

not-needed : (n : ℕ) (t : OrRefused Tuned) → needs false n t ≡ wrong n
unfolding needs
not-needed n t = refl

module _ (s : State) (store : List ℕ) (number k : ℕ) (e : wrong k ≡ checked_as (checks s store)) where
  pub refused-high : 14 ≤ k → 4095 < number → wrong 14 ≡ tune s store number
  unfolding checks tune
  refused-high h f =
      high needs needed not-needed (look_up (plant s store) number) k
      (leb (store_size (limit_of s)) (length store)) (well_formed s) (leb number 4095) (all_live s) (all_read s store) e h
      (lt-leb number 4095 f)

  ruled : (leb number 4095 ≡ false → (k ≡ 15) ⊎ (k ≡ 16) → ⊥) → wrong k ≡ tune s store number
  unfolding checks tune
  ruled =
      other needs needed not-needed (look_up (plant s store) number) k
      (leb (store_size (limit_of s)) (length store)) (well_formed s) (leb number 4095) (all_live s) (all_read s store) e

  pub refused-as : (4095 < number → k ≤ 14) → wrong k ≡ tune s store number
  refused-as h = ruled (λ f q. omega (arith, h (leb-false number 4095 f), q))

-- by name
module _ (s : State) (store : List ℕ) (n : ℕ) {r : Refusal} (e : wrong (number r) ≡ checked_as (checks s store)) where
  pub refused_high : Late r → 4095 < n → wrong 14 ≡ tune s store n
  refused_high h f = refused-high s store n (number r) e (omega (arith, late h)) f

  pub refused_as : (r ≡ Refusal.NotLive → n ≤ 4095) → (r ≡ Refusal.Unreadable → n ≤ 4095) → wrong (number r) ≡ tune s store n
  refused_as f g = ruled s store n (number r) e (not-late n r f g)
