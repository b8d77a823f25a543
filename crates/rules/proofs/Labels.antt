-- The label question, for every state, store and channel number: the rule's answer is told in the words of specs/Labelling.antt, and no other is; and a
-- name that is answered is that of the first live record with the channel's flag and number, a part of the store.
use Prim.Native.Nat.{ℕ, ◌+◌, ◌≤◌}
use native.Mathlib.Omega.{arith}
use mathlib.Core.Path.{◌≡◌, refl, sym, ap, subst, ◌∙◌}
use mathlib.Core.{Logic.inl, Logic.inr, List.List, List.[], Option.Option, Option.none, Option.some}
use mathlib.Core.Bool.{Bool, true, false, cond, ◌&&◌}
use lib.{ListN.length, Dec.leb, Dec.eqb}
use borrow.Author.Tests.{le-leb, lt-leb, leb-true, leb-false, eq-eqb, ne_eqb, eqb-true, eqb-false}
use Rattle.rules.specs.{Layout.Numbered, Tables.Name, Tables.ntt, Search.first}
use Rattle.rules.specs.Holding.{limit_of, store_size, holding_of, well_formed}
use Rattle.rules.specs.Tuning.{Plant, table_live, live_count, place_reads, table_reads, all_live, all_read, plant, live_records}
use Rattle.rules.specs.Tuning.{is_channel, is_range, defined_by, defined}
use Rattle.rules.specs.Standing.{Standing, live_standing}
use Rattle.rules.specs.Label.{is_name, live_names, label_of, channel_label, names_read, wants, labelled}
use Rattle.rules.specs.Answered.{First, Nowhere, RangeIs, ChannelIs, Defined, Askable}
use Rattle.rules.specs.Labelling.{NameIs, names_in, NamesLive, NamesRead, Labelable, Recorded, Labelling, short, unformed, high, not_live, unread}
use Rattle.rules.specs.Labelling.{not_defined, no_record, named, fallback, NamedBy, LabelTold, refused, name, lent, told_label}
use Rattle.rules.specs.Said.{OfLabel}
use Rattle.rules.specs.declared.Table.TheVariants.{Ntt}
use Rattle.rules.specs.{declared.Channel.Channel, declared.Range.Range, declared.State.State, declared.Labelled.Labelled}
use Rattle.rules.proofs.Taken.{not_so, differ, both_left, both_right}
use Rattle.rules.proofs.Tunes.{Decides, Searched, hit, missed, searched, misses, hits, range-test, channel-test}
use Rattle.rules.proofs.{States.formed_says, States.formed_so}
use Rattle.rules.proofs.LivePlaces.{place-so, every-so, live-so, live-says, reads_so, reads-says, table-says}
use Rattle.rules.proofs.Standing.{StandsAt, FirstOf, nowhere, there, first_of, names_stand, name-there, name-fits}
use Rattle.rules.specs.Refusals.{OrRefused, wrong, right}

-- ---- the words are the rule's tests

-- flag and number
name-test : {R : Type 0} (row : R → Numbered Name) (application number : ℕ)
    → Decides (λ x. is_name application number (row x)) (λ x. NameIs application number (row x))
unfolding is_name
name-test row application number =
    record {
      tells = λ x q. (
        eqb-true (row x).what.application application (both_left _ (eqb (row x).what.number number) q),
        eqb-true (row x).what.number number (both_right (eqb (row x).what.application application) _ q),
      );
      told = λ x h. rw (eq-eqb (row x).what.application application h.0, eq-eqb (row x).what.number number h.1) refl;
    }

-- 16 for live names
module _ (s : State) (store : List ℕ) where
  live-by : (b : Bool) → table_live s Ntt ≡ b → cond b (table_reads s store Ntt) true ≡ true → NamesRead s store
  unfolding table_live live_count
  live-by true e q = record { reads = λ on n le. table-says s store Ntt q n (omega (arith, le)) }
  live-by false e q = record { reads = λ on n le. absurd (eqb-false (holding_of s Ntt).live.present 1 e on) }

  pub names-says : names_read s store ≡ true → NamesRead s store
  unfolding names_read
  names-says e = live-by (table_live s Ntt) refl e

  pub names-so : NamesRead s store → names_read s store ≡ true
  unfolding names_read table_live table_reads live_count
  names-so r = go (table_live s Ntt) refl
    where
      go : (b : Bool) → table_live s Ntt ≡ b → cond b (table_reads s store Ntt) true ≡ true
      go true e =
          let on = eqb-true (holding_of s Ntt).live.present 1 e in
          every-so ((holding_of s Ntt).live.last + 1) (place_reads s store Ntt) (λ n lt. place-so s store Ntt n (r.reads on n (omega arith)))
      go false e = refl

-- ---- the answer is told

module _ (s : State) (store : List ℕ) (number : ℕ) where
  abbrev p : Plant
  p = plant s store

  -- the name of a channel record, or the fallback
  name-told : (c : Channel) → Recorded s store number c
      → Labelling s store number (right (label_of (first (λ x. is_name c.application c.source x.row) (live_names s store))))
  unfolding live_names label_of table_live first ntt
  name-told c r = go (table_live s Ntt) refl
    where
      found : NamesLive s → (o : Option (Standing Name)) → Searched (λ y. NameIs c.application c.source y.row) (live_standing s store Ntt) o
          → Labelling s store number (right (label_of o))
      found on none (missed w) = fallback r (λ _. w)
      found on (some x) (hit f) = named r on f

      go : (b : Bool) → table_live s Ntt ≡ b
          → Labelling s store number (right (label_of (first (λ x. is_name c.application c.source x.row) (cond b (live_standing s store Ntt) []))))
      go true e =
          found (eqb-true (holding_of s Ntt).live.present 1 e) _ (searched (name-test (λ (y : Standing Name). y.row) c.application c.source) _)
      go false e = fallback r (λ on. absurd (eqb-false (holding_of s Ntt).live.present 1 e on))

  -- 17 and 18, and then the name
  channel-told : Labelable s store number
      → Labelling s store number (wants (defined p.ranges number) 17 (channel_label s store (first (is_channel number) p.channels)))
  unfolding wants defined defined_by channel_label
  channel-told l = go (first (is_range number) p.ranges) (searched (range-test number) p.ranges) _ refl
    where
      channel : Defined p number → (o : Option (Numbered Channel)) → Searched (ChannelIs number) p.channels o
          → Labelling s store number (channel_label s store o)
      channel d none (missed w) = no_record l d w
      channel d (some e) (hit f) = name-told e.what (record { labelable = l; defined = d; entry = e; first = f; is = refl })

      go : (o : Option (Numbered Range)) → Searched (RangeIs number) p.ranges o → (b : Bool) → defined_by o ≡ b
          → Labelling s store number (wants b 17 (channel_label s store (first (is_channel number) p.channels)))
      go none (missed w) true e = absurd (differ (sym e))
      go none (missed w) false e = not_defined l (inl w)
      go (some r) (hit f) true e =
          channel (record { range = r; first = f; is = eqb-true r.what.defined 1 e }) _ (searched (channel-test number) p.channels)
      go (some r) (hit f) false e = not_defined l (inr (r, f, eqb-false r.what.defined 1 e))

  abbrev behind : OrRefused Labelled
  behind = wants (defined p.ranges number) 17 (channel_label s store (first (is_channel number) p.channels))

  checked : Askable s store number → (d : Bool) → all_live s ≡ d → (e : Bool) → all_read s store ≡ e → (f : Bool) → names_read s store ≡ f
      → Labelling s store number (wants d 15 (wants (e && f) 16 behind))
  unfolding wants
  checked a false live e reads f names = not_live a (λ l. differ (sym (live-so s l) ∙ live))
  checked a true live false reads f names = unread a (live-says s live) (λ r _. differ (sym (reads_so s store r) ∙ reads))
  checked a true live true reads false names = unread a (live-says s live) (λ _ r. differ (sym (names-so s store r) ∙ names))
  checked a true live true reads true names =
      channel-told (record { askable = a; live = live-says s live; reads = reads-says s store reads; names = names-says s store names })

  pub labelling : Labelling s store number (labelled s store number)
  unfolding labelled wants
  labelling = go (leb (store_size (limit_of s)) (length store)) refl (well_formed s) refl (leb number 4095) refl
    where
      rest : OrRefused Labelled
      rest = wants (all_live s) 15 (wants (all_read s store && names_read s store) 16 behind)

      go : (a : Bool) → leb (store_size (limit_of s)) (length store) ≡ a → (b : Bool) → well_formed s ≡ b → (c : Bool) → leb number 4095 ≡ c
          → Labelling s store number (wants a 1 (wants b 2 (wants c 14 rest)))
      go false q b good c low = short (leb-false (store_size (limit_of s)) (length store) q)
      go true q false bad c low = unformed (leb-true (store_size (limit_of s)) (length store) q) (λ f. differ (sym (formed_so s f) ∙ bad))
      go true q true good false low = high (leb-true (store_size (limit_of s)) (length store) q) (formed_says s good) (leb-false number 4095 low)
      go true q true good true low =
          checked (record { roomy = leb-true (store_size (limit_of s)) (length store) q; good = formed_says s good; low = leb-true number 4095 low })
          (all_live s) refl (all_read s store) refl (names_read s store) refl

  -- ---- and no other is

  asked-behind : Labelable s store number → labelled s store number ≡ behind
  unfolding labelled wants
  asked-behind l =
      let a = l.askable in
      rw (
        le-leb (store_size (limit_of s)) (length store) a.roomy,
        formed_so s a.good,
        le-leb number 4095 a.low,
        live-so s l.live,
        reads_so s store l.reads,
        names-so s store l.names,
      ) refl

  asked-name : (c : Channel) → Recorded s store number c
      → labelled s store number ≡ right (label_of (first (λ x. is_name c.application c.source x.row) (live_names s store)))
  unfolding wants defined defined_by channel_label
  asked-name c r =
      let d = r.defined in
      asked-behind r.labelable
      ∙ rw (hits (range-test number) d.first, eq-eqb d.range.what.defined 1 d.is, hits (channel-test number) r.first, ← r.is) refl

  no_name : (c : Channel) → (NamesLive s → Nowhere (λ y. NameIs c.application c.source y.row) (live_standing s store Ntt))
      → first (λ x. is_name c.application c.source x.row) (live_names s store) ≡ none
  unfolding live_names table_live first
  no_name c w = go (table_live s Ntt) refl
    where
      go : (b : Bool) → table_live s Ntt ≡ b → first (λ x. is_name c.application c.source x.row) (cond b (live_standing s store Ntt) []) ≡ none
      go true e = misses (name-test (λ (y : Standing Name). y.row) c.application c.source) (w (eqb-true (holding_of s Ntt).live.present 1 e))
      go false e = refl

  a-name : (c : Channel) (x : Standing Name) → NamesLive s → First (λ y. NameIs c.application c.source y.row) (live_standing s store Ntt) x
      → first (λ y. is_name c.application c.source y.row) (live_names s store) ≡ some x
  unfolding live_names table_live
  a-name c x on f =
      rw (eq-eqb (holding_of s Ntt).live.present 1 on) (hits (name-test (λ (y : Standing Name). y.row) c.application c.source) f)

  pub labelling-only : (l : OrRefused Labelled) → Labelling s store number l → l ≡ labelled s store number
  unfolding labelled wants label_of ntt defined defined_by channel_label
  labelling-only l (short h) = rw (lt-leb (store_size (limit_of s)) (length store) h) refl
  labelling-only l (unformed roomy out) =
      rw (le-leb (store_size (limit_of s)) (length store) roomy, not_so (well_formed s) (λ e. out (formed_says s e))) refl
  labelling-only l (high roomy good h) = rw (le-leb (store_size (limit_of s)) (length store) roomy, formed_so s good, lt-leb number 4095 h) refl
  labelling-only l (not_live a ne) =
      let none = not_so (all_live s) (λ e. ne (live-says s e)) in
      rw (le-leb (store_size (limit_of s)) (length store) a.roomy, formed_so s a.good, le-leb number 4095 a.low, none) refl
  labelling-only l (unread a on ne) =
      let not-read = not_so (all_read s store && names_read s store)
      (λ e. ne (reads-says s store (both_left _ (names_read s store) e)) (names-says s store (both_right (all_read s store) _ e))) in
      rw (le-leb (store_size (limit_of s)) (length store) a.roomy, formed_so s a.good, le-leb number 4095 a.low, live-so s on, not-read) refl
  labelling-only l (not_defined q (inl w)) = sym (asked-behind q ∙ rw (misses (range-test number) w) refl)
  labelling-only l (not_defined q (inr (r, f, ne))) = sym (asked-behind q ∙ rw (hits (range-test number) f, ne_eqb r.what.defined 1 ne) refl)
  labelling-only l (no_record q d w) =
      sym (asked-behind q ∙ rw (hits (range-test number) d.first, eq-eqb d.range.what.defined 1 d.is, misses (channel-test number) w) refl)
  labelling-only l (named {c = c} {x = x} r on f) = sym (asked-name c r ∙ rw (a-name c x on f) refl)
  labelling-only l (fallback {c = c} r w) = sym (asked-name c r ∙ rw (no_name c w) refl)

-- ---- a name that is answered

first_says : {R : Type 0} {P : R → Type 0} {test : R → Bool} (d : Decides test P) (rs : List R) (r : R) → first test rs ≡ some r → First P rs r
first_says {R} {P} {test} d rs r e = go (first test rs) (searched d rs) e
  where
    go : (o : Option R) → Searched P rs o → o ≡ some r → First P rs r
    go none (missed w) q = let z : ◌≡◌ {A = ℕ} 0 1 = cc in absurd (omega arith)
    go (some x) (hit f) q = let is : x ≡ r = cc in subst (λ (y : R). First P rs y) is f

module _ (s : State) (store : List ℕ) (number : ℕ) where
  -- the live names read where they are live
  live-read : Labelable s store number → NamesLive s → table_reads s store Ntt ≡ true
  unfolding names_read table_live
  live-read l on = rw (eq-eqb (holding_of s Ntt).live.present 1 on) at (names-so s store l.names)

  name-is : (c : Channel) (x : Standing Name) → Recorded s store number c → NamesLive s
      → First (λ y. NameIs c.application c.source y.row) (live_standing s store Ntt) x
      → NamedBy s store number (x.at + 4) (length x.row.what.name)
  name-is c x r on f = go (first_of ntt.block store (is_name c.application c.source) _ _ (names_stand s store (live-read r.labelable on)))
    where
      found : first (λ y. is_name c.application c.source y.row) (live_standing s store Ntt) ≡ some x
      found = hits (name-test (λ (y : Standing Name). y.row) c.application c.source) f

      made : StandsAt ntt.block store x → first (is_name c.application c.source) (live_records names_in s store Ntt) ≡ some x.row
          → NamedBy s store number (x.at + 4) (length x.row.what.name)
      made a q =
          record {
            channel = c;
            recorded = r;
            live = on;
            entry = x.row;
            first = first_says (name-test (λ (e : Numbered Name). e) c.application c.source) _ x.row q;
            inside = name-fits store x a;
            bytes = name-there store x a;
          }

      go : FirstOf ntt.block store (is_name c.application c.source) (live_standing s store Ntt) (live_records names_in s store Ntt)
          → NamedBy s store number (x.at + 4) (length x.row.what.name)
      go (nowhere e q) = let k = found in let z : ◌≡◌ {A = ℕ} 0 1 = cc in absurd (omega arith)
      go (there y e q a) =
          let k = found in
          let is : y ≡ x = cc in
          made (subst (λ (z : Standing Name). StandsAt ntt.block store z) is a) (q ∙ ap (λ (z : Standing Name). some z.row) is)

  pub named-is : (start size : ℕ) → labelled s store number ≡ right (Labelled.Named start size) → NamedBy s store number start size
  named-is start size e = go (labelled s store number) (labelling s store number) e
    where
      go : (l : OrRefused Labelled) → Labelling s store number l → l ≡ right (Labelled.Named start size) → NamedBy s store number start size
      go l (short h) q = let z : ◌≡◌ {A = ℕ} 0 1 = cc in absurd (omega arith)
      go l (unformed a b) q = let z : ◌≡◌ {A = ℕ} 0 1 = cc in absurd (omega arith)
      go l (high a b h) q = let z : ◌≡◌ {A = ℕ} 0 1 = cc in absurd (omega arith)
      go l (not_live a b) q = let z : ◌≡◌ {A = ℕ} 0 1 = cc in absurd (omega arith)
      go l (unread a b h) q = let z : ◌≡◌ {A = ℕ} 0 1 = cc in absurd (omega arith)
      go l (not_defined a b) q = let z : ◌≡◌ {A = ℕ} 0 1 = cc in absurd (omega arith)
      go l (no_record a b h) q = let z : ◌≡◌ {A = ℕ} 0 1 = cc in absurd (omega arith)
      go l (fallback a b) q = let z : ◌≡◌ {A = ℕ} 0 1 = cc in absurd (omega arith)
      go l (named {c = c} {x = x} r on f) q =
          let at : x.at + 4 ≡ start = cc in
          let long : length x.row.what.name ≡ size = cc in
          subst (λ (n : ℕ). NamedBy s store number n size) at (subst (λ (n : ℕ). NamedBy s store number (x.at + 4) n) long (name-is c x r on f))

-- ---- what a label tells, by the names alone: wherever in the store they stand

abbrev pub told_wants : Bool → (n : ℕ) → LabelTold → LabelTold
told_wants true n t = t
told_wants false n t = refused n

abbrev name_told : Option (Numbered Name) → LabelTold
name_told none = lent
name_told (some e) = name e.what.name

abbrev pub names_of : State → List ℕ → List (Numbered Name)
names_of s store = cond (table_live s Ntt) (live_records names_in s store Ntt) []

abbrev pub channel_told : List (Numbered Name) → Option (Numbered Channel) → LabelTold
channel_told names none = refused 18
channel_told names (some c) = name_told (first (is_name c.what.application c.what.source) names)

told-wants : (store : List ℕ) (b : Bool) (n : ℕ) (l : OrRefused Labelled) → told_label store (wants b n l) ≡ told_wants b n (told_label store l)
unfolding told_label wants
told-wants store true n l = refl
told-wants store false n l = refl

-- the name that stands at a place is told as it is
module _ (s : State) (store : List ℕ) where
  told-standing : table_reads s store Ntt ≡ true → (test : Numbered Name → Bool)
      → told_label store (right (label_of (first (λ x. test x.row) (live_standing s store Ntt)))) ≡ name_told (first test (live_records names_in s store Ntt))
  unfolding told_label label_of ntt
  told-standing reads test = go (first_of ntt.block store test _ _ (names_stand s store reads))
    where
      go : FirstOf ntt.block store test (live_standing s store Ntt) (live_records names_in s store Ntt)
          → told_label store (right (label_of (first (λ x. test x.row) (live_standing s store Ntt)))) ≡ name_told (first test (live_records names_in s store Ntt))
      go (nowhere p q) = rw (p, q) refl
      go (there y p q a) = rw (p, q) (ap name (name-there store y a))

  told-name : names_read s store ≡ true → (application number : ℕ)
      → told_label store (right (label_of (first (λ x. is_name application number x.row) (live_names s store))))
      ≡ name_told (first (is_name application number) (names_of s store))
  unfolding told_label label_of live_names names_read first
  told-name e application number = go (table_live s Ntt) e
    where
      go : (b : Bool) → cond b (table_reads s store Ntt) true ≡ true
          → told_label store (right (label_of (first (λ x. is_name application number x.row) (cond b (live_standing s store Ntt) []))))
          ≡ name_told (first (is_name application number) (cond b (live_records names_in s store Ntt) []))
      go true q = told-standing q (is_name application number)
      go false q = refl

  told-channel : names_read s store ≡ true → (o : Option (Numbered Channel)) → told_label store (channel_label s store o) ≡ channel_told (names_of s store) o
  unfolding channel_label told_label
  told-channel e none = refl
  told-channel e (some c) = told-name e c.what.application c.what.source

  told-behind : (reads names : Bool) → names_read s store ≡ names → (number : ℕ)
      → told_wants (reads && names) 16 (told_label store (wants (defined (plant s store).ranges number) 17
      (channel_label s store (first (is_channel number) (plant s store).channels))))
      ≡ told_wants (reads && names) 16 (told_wants (defined (plant s store).ranges number) 17
      (channel_told (names_of s store) (first (is_channel number) (plant s store).channels)))
  told-behind false names e number = refl
  told-behind true false e number = refl
  told-behind true true e number =
      told-wants store (defined (plant s store).ranges number) 17 _
      ∙ ap (told_wants (defined (plant s store).ranges number) 17) (told-channel e (first (is_channel number) (plant s store).channels))

  -- the whole answer: the checks, and then by the plant and the names
  pub told_is : (number : ℕ) → told_label store (labelled s store number)
      ≡ told_wants (leb (store_size (limit_of s)) (length store)) 1 (told_wants (well_formed s) 2 (told_wants (leb number 4095) 14 (told_wants (all_live s) 15
      (told_wants (all_read s store && names_read s store) 16 (told_wants (defined (plant s store).ranges number) 17
      (channel_told (names_of s store) (first (is_channel number) (plant s store).channels)))))))
  unfolding labelled
  told_is number =
      told-wants store (leb (store_size (limit_of s)) (length store)) 1 _
      ∙ ap (told_wants (leb (store_size (limit_of s)) (length store)) 1) (told-wants store (well_formed s) 2 _
      ∙ ap (told_wants (well_formed s) 2) (told-wants store (leb number 4095) 14 _
      ∙ ap (told_wants (leb number 4095) 14) (told-wants store (all_live s) 15 _
      ∙ ap (told_wants (all_live s) 15) (told-wants store (all_read s store && names_read s store) 16 _
      ∙ told-behind (all_read s store) (names_read s store) refl number))))

-- ---- the numbers of refusal

module _ (s : State) (store : List ℕ) (number : ℕ) where
  pub label-number : (n : ℕ) → labelled s store number ≡ wrong n → OfLabel n
  label-number n e = go (labelled s store number) (labelling s store number) e
    where
      low : {m : ℕ} → 1 ≤ m → m ≤ 2 → ◌≡◌ {A = OrRefused Labelled} (wrong m) (wrong n) → OfLabel n
      low {m} a b q = let is : m ≡ n = cc in inl (omega arith, omega arith)

      above : {m : ℕ} → 14 ≤ m → m ≤ 18 → ◌≡◌ {A = OrRefused Labelled} (wrong m) (wrong n) → OfLabel n
      above {m} a b q = let is : m ≡ n = cc in inr (omega arith, omega arith)

      go : (l : OrRefused Labelled) → Labelling s store number l → l ≡ wrong n → OfLabel n
      go l (short h) q = low (omega arith) (omega arith) q
      go l (unformed a b) q = low (omega arith) (omega arith) q
      go l (high a b h) q = above (omega arith) (omega arith) q
      go l (not_live a b) q = above (omega arith) (omega arith) q
      go l (unread a b h) q = above (omega arith) (omega arith) q
      go l (not_defined a b) q = above (omega arith) (omega arith) q
      go l (no_record a b h) q = above (omega arith) (omega arith) q
      go l (named r on f) q = let z : ◌≡◌ {A = ℕ} 0 1 = cc in absurd (omega arith)
      go l (fallback r w) q = let z : ◌≡◌ {A = ℕ} 0 1 = cc in absurd (omega arith)
