-- What an entry names: the record at its place in the store, with its index; so the entry of a number names the first live record that goes by it.
use Prim.Native.Nat.{ℕ, zero, suc, ◌+◌, ◌-◌, ◌*◌, ◌/◌, ◌%◌, ◌^◌, ◌≤◌, ◌<◌}
use native.Mathlib.Omega.{arith}
use mathlib.Core.Path.{◌≡◌, refl, sym, ap, subst, ◌∙◌}
use mathlib.Core.Bool.{Bool, true, false, cond}
use mathlib.Core.List.{List, [], ◌∷◌, ◌++◌}
use Rattle.std.proofs.Math.Option.{Option, none, some}
use lib.ListN.{length, take}
use Rattle.rules.specs.{Bytes.got, Bytes.from, Section.without_crc, Holding.section_at, Holding.live_at, Search.first, Search.sections}
use Rattle.rules.specs.{Tuning.live_count, Tuning.live_section, Tuning.live_records, declared.Table.Table, declared.State.State}
use Rattle.rules.specs.Layout.{Numbered, numbered, extent, after, records}
use Rattle.rules.specs.{Bytes.byte, Tables.Name, Tables.ntt, Label.label_of, Labelling.names_in}
use Rattle.rules.specs.declared.Table.TheVariants.{Ntt}
use Rattle.rules.specs.declared.Labelled.TheVariants.{Named}
use Rattle.rules.proofs.{Places.from-length, Places.entry_place, Search.more}
use Rattle.rules.proofs.Standing.{section-part, StandsAt, FirstOf, nowhere, there, first_of, names_stand, name_long}
use Rattle.fields.specs.Outline.{layout_of}
use Rattle.fields.proofs.Outlines.{laid}
use Rattle.rules.specs.Standing.{Standing, of_got, standing, standing_in, live_standing}
use Rattle.search.specs.Entries.{Live, RecordOf, records_of, test_of, entry_number, entry_by, entry_of, record_named}
use Rattle.search.specs.Found.{label_named}
use Rattle.search.proofs.Sections.{section-short, low-live, live-walk}

-- ---- the record of an entry

pub no-entry : (t : Table) (store : List ℕ) (entry : ℕ) → entry ≡ 0 → record_named t store entry ≡ none
unfolding record_named
no-entry t store entry e = rw e

pub an-entry : (t : Table) (store : List ℕ) (entry : ℕ) → (entry ≡ 0 → ⊥)
    → record_named t store entry
    ≡ some (record {
      index = (entry - 1) / 2 ^ 32;
      what = (layout_of t 0).block.look (take (extent (layout_of t 0).block (from store ((entry - 1) % 2 ^ 32))) (from store ((entry - 1) % 2 ^ 32)));
    })
unfolding record_named
an-entry t store zero h = absurd (h refl)
an-entry t store (suc n) h = let e : suc n - 1 ≡ n = omega arith in rw e

pub a-label : (store : List ℕ) (entry : ℕ) → (entry ≡ 0 → ⊥)
    → label_named store entry ≡ Named ((entry - 1) % 2 ^ 32 + 4) (byte ((entry - 1) % 2 ^ 32 + 3) store)
unfolding label_named
a-label store zero h = absurd (h refl)
a-label store (suc n) h = let e : suc n - 1 ≡ n = omega arith in rw e

-- of an entry that is none, and of another
pub ruleset by_entry = (no-entry, an-entry, a-label)

module _ (t : Table) (store : List ℕ) where
  abbrev Names : (at index : ℕ) → Numbered (RecordOf t) → Type 0
  Names at index r = record_named t store (1 + at + index * 2 ^ 32) ≡ some r

  -- the entry of a record in a live section names it
  names-it : (included index start : ℕ) (b : List ℕ) (at : ℕ) → b ≡ without_crc (section_at store start)
      → extent (layout_of t included).block (from b at) ≤ length b - at → start + at < 2 ^ 32
      → Names (start + at) index (numbered (layout_of t included) index (from b at))
  unfolding numbered
  names-it included index start b at e h low32 =
      let l = (layout_of t 0).block in
      let n = extent l (from b at) in
      let entry = 1 + (start + at) + index * 2 ^ 32 in
      let high : (entry - 1) / 2 ^ 32 ≡ index = omega arith in
      let low : (entry - 1) % 2 ^ 32 ≡ start + at = omega arith in
      let k : at + n ≤ length (without_crc (section_at store start)) = omega (arith, (laid t).size included (from b at), (laid t).some (from b at), ap length e) in
      let same : (m : ℕ) → m ≤ n → take m (from store (start + at)) ≡ take m (from b at) =
      λ m f. sym (section-part store start at m (omega arith)) ∙ ap (λ (x : List ℕ). take m (from x at)) (sym e) in
      let long : extent l (from store (start + at)) ≡ n = ap (λ (r : List ℕ). l.size + l.more r) (same l.size (omega arith)) in
      let part : take (extent l (from store (start + at))) (from store (start + at)) ≡ take n (from b at) =
      ap (λ (m : ℕ). take m (from store (start + at))) long ∙ same n (omega arith) in
      an-entry t store entry (λ z. omega arith) ∙ rw (high, low, part) (ap some ((laid t).says included index (from b at)))

  -- ---- records with their places, and without them

  abbrev Alike : List (Standing (RecordOf t)) → List (Numbered (RecordOf t)) → Type 0
  Alike [] [] = Unit
  Alike [] (r ∷ rs) = ⊥
  Alike (y ∷ ys) [] = ⊥
  Alike (y ∷ ys) (r ∷ rs) = Names y.at y.row.index r × (y.at < 2 ^ 32) × (y.row ≡ r) × Alike ys rs

  alike-append : (ys : List (Standing (RecordOf t))) (rs : List (Numbered (RecordOf t))) (zs : List (Standing (RecordOf t)))
      (qs : List (Numbered (RecordOf t)))
      → Alike ys rs → Alike zs qs → Alike (ys ++ zs) (rs ++ qs)
  alike-append [] [] zs qs a b = b
  alike-append [] (r ∷ rs) zs qs a b = elim a [ ]
  alike-append (y ∷ ys) [] zs qs a b = elim a [ ]
  alike-append (y ∷ ys) (r ∷ rs) zs qs a b = (a.0, a.1, a.2, alike-append ys rs zs qs a.3 b)

  -- the entry of the first match names the first match
  alike-first : (test : Numbered (RecordOf t) → Bool) (ys : List (Standing (RecordOf t))) (rs : List (Numbered (RecordOf t))) → Alike ys rs
      → record_named t store (entry_number (first (λ y. test y.row) ys)) ≡ first test rs
  unfolding first entry_number
  alike-first test [] [] a = no-entry t store 0 refl
  alike-first test [] (r ∷ rs) a = elim a [ ]
  alike-first test (y ∷ ys) [] a = elim a [ ]
  alike-first test (y ∷ ys) (r ∷ rs) (n, low, e, a) =
      go (test y.row) (alike-first test ys rs a) ∙ ap (λ (z : Numbered (RecordOf t)). cond (test z) (some r) (first test rs)) e
    where
      go : (b : Bool) → record_named t store (entry_number (first (λ y. test y.row) ys)) ≡ first test rs
          → record_named t store (entry_number (cond b (some y) (first (λ y. test y.row) ys))) ≡ cond b (some r) (first test rs)
      go true q = n
      go false q = q

  -- and it stands at a number of 32 bits
  low_first : (test : Numbered (RecordOf t) → Bool) (ys : List (Standing (RecordOf t))) (rs : List (Numbered (RecordOf t))) → Alike ys rs
      → (y : Standing (RecordOf t)) → first (λ z. test z.row) ys ≡ some y → y.at < 2 ^ 32
  unfolding first
  low_first test [] [] a y e = let z : ◌≡◌ {A = ℕ} 0 1 = cc in absurd (omega arith)
  low_first test [] (r ∷ rs) a y e = elim a [ ]
  low_first test (x ∷ ys) [] a y e = elim a [ ]
  low_first test (x ∷ ys) (r ∷ rs) (n, low, q, a) y e = go (test x.row) e (low_first test ys rs a y)
    where
      go : (b : Bool) → cond b (some x) (first (λ z. test z.row) ys) ≡ some y → (first (λ z. test z.row) ys ≡ some y → y.at < 2 ^ 32) → y.at < 2 ^ 32
      go true p others = let is : x ≡ y = cc in rw (← is) low
      go false p others = others p

  -- the records of a live section
  alike-standing : (included start : ℕ) (b : List ℕ) → b ≡ without_crc (section_at store start) → start < 2 ^ 30
      → (n index at : ℕ) (rs : List (Numbered (RecordOf t))) (rest : List ℕ)
      → records (layout_of t included) n index (from b at) ≡ got rs rest → Alike (standing (layout_of t included) n index (start + length b) (from b at)) rs
  unfolding records standing of_got after numbered
  alike-standing included start b e low zero index at rs rest q = let z : rs ≡ [] = cc in subst (λ (l : List (Numbered (RecordOf t))). Alike [] l) (sym z) tt
  alike-standing included start b e low (suc n) index at rs rest q =
      let l = layout_of t included in
      let o = more l n index (from b at) rs rest q in
      let place = entry_place l index b at _ _ o.one in
      let fits : extent l.block (from b at) ≤ length b - at = rw (← from-length b at) o.whole.fits in
      let inside : at < length b = omega (arith, fits, (laid t).size included (from b at), (laid t).some (from b at)) in
      let here : start + length b - length (from b at) ≡ start + at = omega (arith, from-length b at, inside) in
      let next = index + l.takes (l.block.look (take (extent l.block (from b at)) (from b at))) in
      let others = alike-standing included start b e low n next place.0 o.others rest (rw (← place.1) o.more) in
      let short = section-short store start in
      let small : start + at < 2 ^ 32 = omega (arith, short, ap length e, inside, low) in
      rw (o.is, o.one, here, place.1) (names-it included index start b at e fits small, small, refl, others)

-- ---- the entry of a number

module _ (s : State) (store : List ℕ) (t : Table) (live : Live s store t) where
  alike-section : (i : ℕ) → i < live_count s t → Alike t store (standing_in s store t i) (live_section (records_of t) s store t i)
  alike-section i h =
      let k = live-walk s store t live i h _ refl _ refl in
      rw k.2 (alike-standing t store _ (live_at s t i) _ refl (low-live s store t live i h) _ _ _ _ k.0 k.1)

  alike-sections : (m i : ℕ) → live_count s t ≡ m + i → Alike t store (sections (standing_in s store t) m i) (sections (live_section (records_of t) s store t) m i)
  unfolding sections
  alike-sections zero i e = tt
  alike-sections (suc m) i e =
      alike-append t store (standing_in s store t i) (live_section (records_of t) s store t i) (sections (standing_in s store t) m (i + 1))
      (sections (live_section (records_of t) s store t) m (i + 1))
      (alike-section i (omega (arith, e))) (alike-sections m (i + 1) (omega (arith, e)))

  pub entry-names : (x : ℕ) → record_named t store (entry_of s store t x) ≡ first (test_of t x) (live_records (records_of t) s store t)
  unfolding entry_of entry_by live_standing live_records
  entry-names x = alike-first t store (test_of t x) _ _ (alike-sections (live_count s t) 0 (omega arith))

-- ---- the label that an entry is

no_label : (store : List ℕ) (o : Option (Standing Name)) → o ≡ none → label_named store (entry_number o) ≡ label_of o
unfolding label_named entry_number label_of
no_label store o e = rw e refl

module _ (s : State) (store : List ℕ) (live : Live s store Ntt) (test : Numbered Name → Bool) where
  low-name : (y : Standing Name) → first (λ z. test z.row) (live_standing s store Ntt) ≡ some y → y.at < 2 ^ 32
  unfolding live_standing
  low-name y e = low_first Ntt store test _ _ (alike-sections s store Ntt live (live_count s Ntt) 0 (omega arith)) y e

  named-at : (y : Standing Name) → StandsAt ntt.block store y → y.at < 2 ^ 32 → label_named store (entry_number (some y)) ≡ label_of (some y)
  unfolding entry_number label_of ntt
  named-at y a low =
      let entry = 1 + y.at + y.row.index * 2 ^ 32 in
      let at : (entry - 1) % 2 ^ 32 ≡ y.at = omega (arith, low) in
      a-label store entry (λ z. omega arith) ∙ rw (at, ← name_long store y a) refl

  pub label-found : label_named store (entry_by s store Ntt test) ≡ label_of (first (λ x. test x.row) (live_standing s store Ntt))
  unfolding entry_by
  label-found = go (first_of ntt.block store test (live_standing s store Ntt) _ (names_stand s store live.reads))
    where
      go : FirstOf ntt.block store test (live_standing s store Ntt) (live_records names_in s store Ntt)
          → label_named store (entry_number (first (λ x. test x.row) (live_standing s store Ntt)))
          ≡ label_of (first (λ x. test x.row) (live_standing s store Ntt))
      go (nowhere p q) = no_label store _ p
      go (there y p q a) = rw p (named-at y a (low-name y p))
