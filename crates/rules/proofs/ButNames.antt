-- Tuning needs no names: two boxes that differ in no more than names and language tune alike.
use Prim.Native.Nat.{ℕ, ◌+◌, ◌≤◌, ◌<◌}
use native.Mathlib.Omega.{arith}
use mathlib.Core.Path.{◌≡◌, refl, sym, ap, ◌∙◌}
use mathlib.Core.{Bool.Bool, Bool.true, Bool.false, List.List}
use lib.{ListN.length, ListN.take, ListN.drop, ListN.length-take, Dec.leb, Dec.eqb}
use borrow.Author.Tests.{eqb-true, le-leb}
use Rattle.rules.specs.{Bytes.from, Section.Content, Section.Structure, Section.Reading, Section.wrong, Section.right, Section.read_section}
use Rattle.rules.specs.{Section.length_of, Search.sections, declared.Table.Table, declared.Holding.Holding, declared.State.State, Labelling.ButNames}
use Rattle.rules.specs.Gathering as Gathering
use Rattle.rules.specs.Holding.{limit_of, index_of, is_table, listed, holding_of, place_of, store_size, section_at, live_at, well_formed}
use Rattle.rules.specs.Holding.{has_language, not_ours, other_map, read_for}
use Rattle.rules.specs.Tuning.{needed_tables, table_live, all_live, live_count, live_reading, is_section, reads_as, every, place_reads, table_reads, all_read}
use Rattle.rules.specs.Tuning.{records_in, live_section, live_records, carriers_in, modes_in, channels_in, ranges_in, plant, tune}
use Rattle.rules.specs.declared.Table.TheVariants.{Cds, Mms, Vcm, Dcm, Ntt}
use Rattle.rules.proofs.{LiveRecords.same_sections, Formed.last-low, Truths.differ}
use Rattle.rules.proofs.States.{each_same, formed_so, table_formed, same_index, limit-some}
use Rattle.rules.proofs.{Asking.part-front, TunesAlike.every-same}

-- a needed table has no language, and one of the first four places in the store
no-language : (t : Table) → listed needed_tables t ≡ true → has_language t ≡ false
no-language Cds h = refl
no-language Mms h = refl
no-language Vcm h = refl
no-language Dcm h = refl
no-language Ntt h = absurd (differ (sym h))

low-index : (t : Table) → listed needed_tables t ≡ true → index_of t ≤ 3
low-index Cds h = omega arith
low-index Mms h = omega arith
low-index Vcm h = omega arith
low-index Dcm h = omega arith
low-index Ntt h = absurd (differ (sym h))

-- a place that ends in a part of the store that is the same
same_place : (store other : List ℕ) (m at : ℕ) → take m other ≡ take m store → at + 1024 ≤ m → m ≤ length store → m ≤ length other
    → section_at other at ≡ section_at store at
unfolding Gathering.section_at from
same_place store other m at e low long longer =
    let here = part-front m store at 1024 (omega (arith, length-take m store)) in
    let there = part-front m other at 1024 (omega (arith, length-take m other)) in
    let place : take 1024 (drop at other) ≡ take 1024 (drop at store) = sym there ∙ ap (λ (l : List ℕ). take 1024 (drop at l)) e ∙ here in
    ap (λ (l : List ℕ). take (3 + length_of l) l) place

module _ (s u : State) (store other : List ℕ) (b : ButNames s u store other) where
  live_same : all_live u ≡ all_live s
  unfolding all_live table_live
  live_same = each_same needed_tables (table_live u) (table_live s) (λ t h. ap (λ (k : Holding). eqb k.live.present 1) (b.held t h))

  module _ (t : Table) (h : listed needed_tables t ≡ true) where
    count_same : live_count u t ≡ live_count s t
    unfolding live_count
    count_same = ap (λ (k : Holding). k.live.last + 1) (b.held t h)

    at_same : (n : ℕ) → live_at u t n ≡ live_at s t n
    unfolding Gathering.live_at limit_of
    at_same n = ap (λ (k : Holding). place_of 4 t k.half n) (b.held t h)

    low-place : (n : ℕ) → n < live_count s t → live_at s t n + 1024 ≤ 32768
    unfolding Gathering.live_at Gathering.place_of live_count limit_of
    low-place n lt =
        let last = last-low (limit_of s) (holding_of s t) (limit-some s) (table_formed s t (formed_so s b.good)) in
        let half = (b.good t).half in
        let index = low-index t h in
        omega (arith, last, half, index, lt)

    reading-same : (n : ℕ) → n < live_count s t → live_reading u other t n ≡ live_reading s store t n
    unfolding live_reading read_for Gathering.store_size limit_of
    reading-same n lt =
        let low = low-place n lt in
        let roomy = b.roomy in
        let more = b.other_roomy in
        ap read_section (ap (section_at other) (at_same n)
        ∙ same_place store other 32768 (live_at s t n) b.front low (omega (arith, roomy, size s)) (omega (arith, more, size u)))
      where
        size : (x : State) → store_size (limit_of x) ≡ 40960
        size x = refl

    -- whose section it is: of another table it is none, and of this one no language is asked
    section-same : (n : ℕ) (c : Content) → reads_as u t n (right c) ≡ reads_as s t n (right c)
    unfolding reads_as is_section other_map not_ours
    section-same n c = go (is_table c.table t) refl
      where
        ours : c.table ≡ t → other_map u c ≡ other_map s c
        ours e = rw (e, no-language t h, b.map) refl

        go : (i : Bool) → is_table c.table t ≡ i → reads_as u t n (right c) ≡ reads_as s t n (right c)
        go true e = rw (ours (same_index c.table t (eqb-true (index_of c.table) (index_of t) e)), b.held t h) refl
        go false e = rw e refl

    place_same : (n : ℕ) → n < live_count s t → place_reads u other t n ≡ place_reads s store t n
    unfolding place_reads reads_as
    place_same n lt = ap (reads_as u t n) (reading-same n lt) ∙ go (live_reading s store t n)
      where
        go : (r : Reading) → reads_as u t n r ≡ reads_as s t n r
        go (wrong k) = refl
        go (right c) = section-same n c

    table_same : table_reads u other t ≡ table_reads s store t
    unfolding table_reads
    table_same = ap (λ (n : ℕ). every n (place_reads u other t)) count_same ∙ every-same (live_count s t) (place_reads u other t) (place_reads s store t) place_same

    records-same : {R : Type 0} (records : Structure → List R) → live_records records u other t ≡ live_records records s store t
    unfolding live_records live_section
    records-same records =
        ap (λ (n : ℕ). sections (live_section records u other t) n 0) count_same
        ∙ same_sections (live_section records u other t) (live_section records s store t) (live_count s t) 0
        (λ n lt. ap (records_in records) (reading-same n (omega arith)))

  read_same : all_read u other ≡ all_read s store
  unfolding all_read
  read_same = each_same needed_tables (table_reads u other) (table_reads s store) table_same

  plant-same : plant u other ≡ plant s store
  unfolding plant
  plant-same =
      rw (records-same Cds refl carriers_in, records-same Mms refl modes_in)
      (rw (records-same Vcm refl channels_in, records-same Dcm refl ranges_in) refl)

  pub tunes-alike : (number : ℕ) → tune u other number ≡ tune s store number
  unfolding tune
  tunes-alike number =
      let one : leb (store_size (limit_of u)) (length other) ≡ leb (store_size (limit_of s)) (length store) =
      le-leb (store_size (limit_of u)) (length other) b.other_roomy ∙ sym (le-leb (store_size (limit_of s)) (length store) b.roomy) in
      let two : well_formed u ≡ well_formed s = formed_so u b.other_good ∙ sym (formed_so s b.good) in
      rw (one, two, live_same, read_same, plant-same) refl
