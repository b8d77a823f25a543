-- Refusals 15 and 16 are as they are told: each table that tuning needs is live, and each place of it "reads right as that table, map, version, number
-- and last".
use Prim.Native.Nat.{ℕ, zero, suc, ◌+◌, ◌<◌}
use native.Mathlib.Omega.{arith}
use mathlib.Core.Path.{◌≡◌, refl, sym, ap, ◌∙◌}
use mathlib.Core.Bool.{Bool, true, false, not, ◌&&◌}
use mathlib.Core.List.{List}
use lib.Dec.{eqb}
use borrow.Author.Tests.{eq-eqb, eqb-true, eqb-false, not-true}
use Rattle.rules.specs.Section.{Content, Reading, wrong, right}
use Rattle.rules.specs.Holding.{index_of, is_table, section_at, holding_of, live_at, other_map, read_for}
use Rattle.rules.specs.{Answered.EachLive, Answered.Reads, Answered.EachReads, declared.Table.Table, declared.State.State}
use Rattle.rules.specs.Tuning.{needed_tables, table_live, all_live, live_count, live_reading, is_section, reads_as, every, place_reads, table_reads, all_read}
use Rattle.rules.proofs.Taken.{not_so, differ, both_left, both_right}
use Rattle.rules.proofs.States.{same_index, each_at, each-so, mapped-says, mapped-so}

-- ---- one place

module _ (s : State) (store : List ℕ) (t : Table) (n : ℕ) where
  pub place-so : Reads s store t n → place_reads s store t n ≡ true
  unfolding place_reads live_reading reads_as is_section
  place-so r =
      let c = r.content in
      simp (
        r.reads,
        eq-eqb (index_of c.table) (index_of t) (ap index_of r.table),
        not_so (other_map s c) (λ e. r.map (mapped-says s c e)),
        eq-eqb c.revision.version (holding_of s t).live.version r.version,
        eq-eqb c.revision.number n r.number,
        eq-eqb c.revision.last (holding_of s t).live.last r.last,
      )

  is-section : (c : Content) → read_for s (section_at store (live_at s t n)) ≡ right c → is_section s t n c.table (other_map s c) c.revision ≡ true
      → Reads s store t n
  unfolding is_section
  is-section c e q =
      let four = both_left _ (eqb c.revision.last (holding_of s t).live.last) q in
      let three = both_left _ (eqb c.revision.number n) four in
      let two = both_left _ (eqb c.revision.version (holding_of s t).live.version) three in
      let one = both_left _ (not (other_map s c)) two in
      record {
        content = c;
        reads = e;
        table = same_index c.table t (eqb-true (index_of c.table) (index_of t) one);
        map = λ a. differ (sym (mapped-so s c a) ∙ not-true _ (both_right (is_table c.table t) _ two));
        version = eqb-true c.revision.version (holding_of s t).live.version (both_right (is_table c.table t && not (other_map s c)) _ three);
        number =
            eqb-true c.revision.number n (both_right (is_table c.table t && not (other_map s c) && eqb c.revision.version
            (holding_of s t).live.version) _ four);
        last =
            eqb-true c.revision.last (holding_of s t).live.last
            (both_right (is_table c.table t && not (other_map s c) && eqb c.revision.version (holding_of s t).live.version && eqb
            c.revision.number n) _ q);
      }

  pub place-says : place_reads s store t n ≡ true → Reads s store t n
  unfolding place_reads live_reading reads_as
  place-says = go (read_for s (section_at store (live_at s t n))) refl
    where
      go : (r : Reading) → read_for s (section_at store (live_at s t n)) ≡ r → reads_as s t n r ≡ true → Reads s store t n
      go (wrong k) e q = absurd (differ (sym q))
      go (right c) e q = is-section c e q

-- ---- all places

pub every-so : (n : ℕ) (test : ℕ → Bool) → ((k : ℕ) → k < n → test k ≡ true) → every n test ≡ true
unfolding every
every-so zero test f = refl
every-so (suc n) test f = rw (every-so n test (λ k lt. f k (omega arith)), f n (omega arith)) refl

pub every-at : (n : ℕ) (test : ℕ → Bool) → every n test ≡ true → (k : ℕ) → k < n → test k ≡ true
unfolding every
every-at zero test e k lt = absurd (omega arith)
every-at (suc n) test e k lt = go (eqb k n) refl (every-at n test (both_left _ (test n) e) k)
  where
    go : (b : Bool) → eqb k n ≡ b → (k < n → test k ≡ true) → test k ≡ true
    go true q below = rw (eqb-true k n q) (both_right (every n test) _ e)
    go false q below = let ne = eqb-false k n q in below (omega arith)

pub live-so : (s : State) → EachLive s → all_live s ≡ true
unfolding all_live table_live
live-so s l = each-so needed_tables (table_live s) (λ t h. eq-eqb (holding_of s t).live.present 1 (l.live t h))

pub live-says : (s : State) → all_live s ≡ true → EachLive s
unfolding all_live table_live
live-says s e = record { live = λ t h. eqb-true (holding_of s t).live.present 1 (each_at needed_tables (table_live s) e t h) }

module _ (s : State) (store : List ℕ) where
  pub reads_so : EachReads s store → all_read s store ≡ true
  unfolding all_read table_reads live_count
  reads_so r =
      each-so needed_tables (table_reads s store)
      (λ t h. every-so ((holding_of s t).live.last + 1) (place_reads s store t) (λ n lt. place-so s store t n (r.reads t h n (omega arith))))

  -- one table
  pub table-says : (t : Table) → table_reads s store t ≡ true → (n : ℕ) → n < live_count s t → Reads s store t n
  unfolding table_reads
  table-says t e n lt = place-says s store t n (every-at (live_count s t) (place_reads s store t) e n lt)

  pub reads-says : all_read s store ≡ true → EachReads s store
  unfolding all_read live_count
  reads-says e = record { reads = λ t h n le. table-says t (each_at needed_tables (table_reads s store) e t h) n (omega arith) }
