-- What the checks leave, and each stage of the question as the rule has it.
use Prim.Native.Nat.{ℕ, ◌<◌, ◌≤◌}
use native.Mathlib.Omega.{arith}
use mathlib.Core.Path.{◌≡◌, refl, sym, ap, ◌∙◌}
use mathlib.Core.Bool.{Bool, true, false, cond, ◌&&◌}
use mathlib.Core.{List.List, Option.Option, Option.none, Option.some}
use lib.{ListN.length, ListN.drop, ListN.length-take, Dec.leb}
use borrow.Author.Tests.{le-leb, lt-leb, eq-eqb, ne_eqb}
use Rattle.rules.specs.Holding.{limit_of, store_size, well_formed}
use Rattle.rules.specs.Tuning.{table_live, all_live, table_reads, all_read, plant, is_channel, defined}
use Rattle.rules.specs.{Layout.Numbered, Search.first, Standing.Standing, Standing.live_standing, Tables.Name}
use Rattle.rules.specs.{declared.Channel.Channel, declared.State.State, declared.Labelled.Labelled}
use Rattle.rules.specs.Label.{is_name, live_names, label_of, channel_label, names_read, wants, labelled, label_bytes}
use Rattle.rules.specs.declared.Table.TheVariants.{Ntt}
use Rattle.rules.proofs.{States.table_formed}
use Rattle.search.specs.Entries.{Live, entry_by}
use Rattle.search.proofs.Named.{label-found}
use Rattle.std.specs.Prelude as std
use Rattle.std.specs.Prelude.{Result, Ok, Err, IfOk}
use Rattle.rules.specs.Refusals.{OrRefused, wrong, right, number, by_number}
use Rattle.rules.specs.declared.Refusal.{Refusal}
use Rattle.search.specs.Found.{channel_found, label_named, Brief}
use Rattle.tuner.specs.Checks.{checks, checked_as}
use Rattle.tuner.proofs.Order.{Check}
use Rattle.tuner.proofs.Laws.{passed, high, other, Late, late, not-late}
use Rattle.label.specs.Labels.{label_checks}

-- ---- the checks are those of tuning, and then the names

module _ (s : State) (store : List ℕ) where
  refused : {k : ℕ} → wrong k ≡ checked_as (checks s store) → wrong k ≡ checked_as (label_checks s store)
  unfolding checks label_checks
  refused {k} = go (leb (store_size (limit_of s)) (length store)) (well_formed s) (all_live s) (all_read s store) (names_read s store)
    where
      go : (roomy good live reads names : Bool) → wrong k ≡ checked_as (Check roomy good live reads)
          → wrong k ≡ checked_as (Check roomy good live (reads && names))
      go false good live reads names e = e
      go true false live reads names e = e
      go true true false reads names e = e
      go true true true false names e = e
      go true true true true names e = let z : ◌≡◌ {A = ℕ} 0 1 = cc in absurd (omega arith)

  pub check_refused : {q r : Result Unit Refusal} {k : Refusal} → by_number q ≡ checked_as (checks s store) → q ≡ Err k → r ≡ Err k
      → by_number r ≡ checked_as (label_checks s store)
  check_refused e q r = rw r (refused (sym (ap by_number q) ∙ e))

  names : (b : Bool) → b ≡ names_read s store → right tt ≡ checked_as (checks s store) → checked_as (cond b 0 16) ≡ checked_as (label_checks s store)
  unfolding checks label_checks
  names b n e =
      rw n (go (leb (store_size (limit_of s)) (length store)) (well_formed s) (all_live s) (all_read s store) (names_read s store) e)
    where
      go : (roomy good live reads names : Bool) → right tt ≡ checked_as (Check roomy good live reads)
          → checked_as (cond names 0 16) ≡ checked_as (Check roomy good live (reads && names))
      go false good live reads names e = let z : ◌≡◌ {A = ℕ} 0 1 = cc in absurd (omega arith)
      go true false live reads names e = let z : ◌≡◌ {A = ℕ} 0 1 = cc in absurd (omega arith)
      go true true false reads names e = let z : ◌≡◌ {A = ℕ} 0 1 = cc in absurd (omega arith)
      go true true true false names e = let z : ◌≡◌ {A = ℕ} 0 1 = cc in absurd (omega arith)
      go true true true true names e = refl

  pub check_unread : right tt ≡ checked_as (checks s store) → false ≡ names_read s store → wrong 16 ≡ checked_as (label_checks s store)
  check_unread e n = names false n e

  pub check_passed : right tt ≡ checked_as (checks s store) → true ≡ names_read s store → right tt ≡ checked_as (label_checks s store)
  check_passed e n = names true n e

-- ---- what the checks leave

all-passed : (s : State) (store : List ℕ) → label_checks s store ≡ 0 → (checks s store ≡ 0) × (names_read s store ≡ true)
unfolding checks label_checks
all-passed s store = go (leb (store_size (limit_of s)) (length store)) (well_formed s) (all_live s) (all_read s store) (names_read s store)
  where
    go : (roomy good live reads names : Bool) → Check roomy good live (reads && names) ≡ 0 → (Check roomy good live reads ≡ 0) × (names ≡ true)
    go false good live reads names e = absurd (omega arith)
    go true false live reads names e = absurd (omega arith)
    go true true false reads names e = absurd (omega arith)
    go true true true false names e = absurd (omega arith)
    go true true true true false e = absurd (omega arith)
    go true true true true true e = (refl, refl)

pub tunable : (s : State) (store : List ℕ) → label_checks s store ≡ 0 → checks s store ≡ 0
tunable s store e = (all-passed s store e).0

names-passed : (s : State) (store : List ℕ) → label_checks s store ≡ 0 → names_read s store ≡ true
names-passed s store e = (all-passed s store e).1

-- names that are live can be searched
pub names_searchable : (s : State) (store : List ℕ) → label_checks s store ≡ 0 → s.tables.ntt.live.present ≡ 1 → Live s store Ntt
unfolding names_read table_live
names_searchable s store e live =
    let reads : table_reads s store Ntt ≡ true = rw (eq-eqb s.tables.ntt.live.present 1 live) at (names-passed s store e) in
    record { formed = table_formed s Ntt (passed s store (tunable s store e)).good; reads = reads }

-- ---- the names

module _ (s : State) (store : List ℕ) where
  pub no_names : (s.tables.ntt.live.present ≡ 1 → ⊥) → (a n : ℕ) → Labelled.Fallback ≡ label_of (first (λ e. is_name a n e.row) (live_names s store))
  unfolding live_names table_live first label_of
  no_names h a n = rw (ne_eqb s.tables.ntt.live.present 1 h) refl

  all-names : s.tables.ntt.live.present ≡ 1 → live_names s store ≡ live_standing s store Ntt
  unfolding live_names table_live
  all-names h = rw (eq-eqb s.tables.ntt.live.present 1 h) refl

  pub name_first : label_checks s store ≡ 0 → s.tables.ntt.live.present ≡ 1 → (a n : ℕ)
      → label_named store (entry_by s store Ntt (is_name a n)) ≡ label_of (first (λ e. is_name a n e.row) (live_names s store))
  name_first e h a n =
      label-found s store (names_searchable s store e h) (is_name a n)
      ∙ ap (λ (xs : List (Standing Name)). label_of (first (λ e. is_name a n e.row) xs)) (sym (all-names h))

-- ---- the question is the checks and the look-up

module _ (s : State) (store : List ℕ) (number : ℕ) (e : label_checks s store ≡ 0) where
  pub too_high : 4095 < number → wrong 14 ≡ labelled s store number
  unfolding labelled wants
  too_high h =
      let p = passed s store (tunable s store e) in
      rw (le-leb (store_size (limit_of s)) (length store) p.roomy, p.good, lt-leb number 4095 h) refl

  module _ (low : number ≤ 4095) where
    beyond : labelled s store number
        ≡ wants (defined (plant s store).ranges number) 17 (channel_label s store (first (is_channel number) (plant s store).channels))
    unfolding labelled wants
    beyond =
        let p = passed s store (tunable s store e) in
        rw (le-leb (store_size (limit_of s)) (length store) p.roomy, p.good, le-leb number 4095 low, p.live, p.reads, names-passed s store e) refl

    pub undefined : false ≡ defined (plant s store).ranges number → wrong 17 ≡ labelled s store number
    unfolding wants
    undefined d = sym (beyond ∙ rw (← d) refl)

    module _ (d : true ≡ defined (plant s store).ranges number) where
      pub unrecorded : std.None ≡ channel_found (first (is_channel number) (plant s store).channels) → wrong 18 ≡ labelled s store number
      unfolding channel_found channel_label wants
      unrecorded f = sym (beyond ∙ rw (← d) (go (first (is_channel number) (plant s store).channels) f))
        where
          go : (o : Option (Numbered Channel)) → std.None ≡ channel_found o → channel_label s store o ≡ wrong 18
          go none q = refl
          go (some c) q = let z : ◌≡◌ {A = ℕ} 0 1 = cc in absurd (omega arith)

      pub recorded : {c : Channel} → std.Some c ≡ channel_found (first (is_channel number) (plant s store).channels)
          → {l : Labelled} → l ≡ label_of (first (λ x. is_name c.application c.source x.row) (live_names s store)) → right l ≡ labelled s store number
      unfolding channel_found channel_label wants
      recorded {c} f e = ap right e ∙ sym (beyond ∙ rw (← d) (go (first (is_channel number) (plant s store).channels) f))
        where
          go : (o : Option (Numbered Channel)) → std.Some c ≡ channel_found o
              → channel_label s store o ≡ right (label_of (first (λ x. is_name c.application c.source x.row) (live_names s store)))
          go none q = let z : ◌≡◌ {A = ℕ} 0 1 = cc in absurd (omega arith)
          go (some r) q = let is : r.what ≡ c = cc in rw is refl

-- where a check is not passed: the refusal in its place beside 14
wanted : (n : ℕ) (l : OrRefused Labelled) → wants true n l ≡ l
unfolding wants
wanted n l = refl

not-wanted : (n : ℕ) (l : OrRefused Labelled) → wants false n l ≡ wrong n
unfolding wants
not-wanted n l = refl

abbrev behind : State → List ℕ → ℕ → OrRefused Labelled
behind s store n = wants (defined (plant s store).ranges n) 17 (channel_label s store (first (is_channel n) (plant s store).channels))

module _ (s : State) (store : List ℕ) (n : ℕ) {r : Refusal} (e : wrong (number r) ≡ checked_as (label_checks s store)) where
  pub refused_high : Late r → 4095 < n → wrong 14 ≡ labelled s store n
  unfolding label_checks labelled
  refused_high h f =
      high wants wanted not-wanted (behind s store n) (number r) (leb (store_size (limit_of s)) (length store)) (well_formed s) (leb n 4095)
      (all_live s) (all_read s store && names_read s store) e (omega (arith, late h)) (lt-leb n 4095 f)

  pub refused_as : (r ≡ Refusal.NotLive → n ≤ 4095) → (r ≡ Refusal.Unreadable → n ≤ 4095) → wrong (number r) ≡ labelled s store n
  unfolding label_checks labelled
  refused_as f g =
      other wants wanted not-wanted (behind s store n) (number r) (leb (store_size (limit_of s)) (length store)) (well_formed s) (leb n 4095)
      (all_live s) (all_read s store && names_read s store) e (not-late n r f g)

-- ---- a label is no longer than a name or the fallback

pub brief_bytes : (store fallback : List ℕ) (r : Result Labelled Refusal) (bytes : List ℕ) → bytes ≡ label_bytes store fallback (by_number r)
    → IfOk r Brief → length fallback ≤ 255 → length bytes ≤ 255
unfolding label_bytes
brief_bytes store fallback (Err n) bytes e b h = omega (arith, ap length e)
brief_bytes store fallback (Ok (Labelled.Named start size)) bytes e b h = omega (arith, ap length e, length-take size (drop start store), b)
brief_bytes store fallback (Ok Labelled.Fallback) bytes e b h = omega (arith, ap length e, h)
