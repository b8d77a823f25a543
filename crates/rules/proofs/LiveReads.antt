-- Of a fresh box, with any store, the live places always read: what its state says of the store is so (`Faithful`), and that is what check 16 asks.
use Prim.Native.Nat.{ℕ, ◌+◌}
use native.Mathlib.Omega.{arith}
use mathlib.Core.{Path.◌≡◌, Path.ap, Path.◌∙◌, Bool.true, List.List}
use borrow.Author.Tests.{eqb-true, eq-eqb}
use Rattle.rules.specs.Gathering as Gathering
use Rattle.rules.specs.Holding.{index_of, section_at, holding_of, live_at, fresh, Box, run, box}
use Rattle.rules.specs.{Offering.Wanted, declared.Table.Table, declared.State.State, declared.Revision.Revision}
use Rattle.rules.specs.Tuning.{table_live, live_count, live_reading, is_section, reads_as, place_reads, table_reads}
use Rattle.rules.proofs.States.{lawful, all-fresh}
use Rattle.rules.proofs.Lawful.{aside-no}
use Rattle.rules.proofs.{Faithful.FaithfulBox, Faithful.faithful-run, Faithful.faithful-fresh, LivePlaces.every-so}

module _ (start : State) (b : Box) (f : FaithfulBox box start b) (t : Table) where
  place-reads : (n : ℕ)
      → Wanted box start t (holding_of b.state t).live.version (holding_of b.state t).live.last n (section_at b.store (live_at b.state t n))
      → place_reads b.state b.store t n ≡ true
  unfolding place_reads live_reading reads_as is_section
  place-reads n w =
      simp (
        f.reads (section_at b.store (live_at b.state t n)) ∙ w.reads,
        eq-eqb (index_of w.content.table) (index_of t) (ap index_of w.table),
        f.aside w.content ∙ aside-no box lawful start w.content w.ours,
        eq-eqb w.content.revision.version (holding_of b.state t).live.version (ap (λ (r : Revision). r.version) w.revision),
        eq-eqb w.content.revision.number n (ap (λ (r : Revision). r.number) w.revision),
        eq-eqb w.content.revision.last (holding_of b.state t).live.last (ap (λ (r : Revision). r.last) w.revision),
      )

  -- each place of a live table "reads right as that table, map, version, number and last"
  table-reads : table_live b.state t ≡ true → table_reads b.state b.store t ≡ true
  unfolding table_live table_reads live_count Gathering.live_at
  table-reads e =
      every-so ((holding_of b.state t).live.last + 1) (place_reads b.state b.store t)
      (λ n lt. place-reads n ((f.tables t).live (eqb-true (holding_of b.state t).live.present 1 e) n (omega arith)))

fresh-faithful : (map : ℕ) (language store : List ℕ) (sections : List (List ℕ))
    → FaithfulBox box (fresh map language) (run (record { state = fresh map language; store = store }) sections)
fresh-faithful map language store sections =
    faithful-run box lawful (fresh map language) sections (record { state = fresh map language; store = store })
    (faithful-fresh box (fresh map language) store (all-fresh map language))

-- whatever stood in the store and whatever is offered to a fresh box: where a table is live, check 16 of it passes
pub run-reads : (map : ℕ) (language store : List ℕ) (sections : List (List ℕ)) (t : Table)
    → table_live (run (record { state = fresh map language; store = store }) sections).state t ≡ true
    → table_reads (run (record { state = fresh map language; store = store }) sections).state
    (run (record { state = fresh map language; store = store }) sections).store t ≡ true
run-reads map language store sections =
    table-reads (fresh map language) (run (record { state = fresh map language; store = store }) sections) (fresh-faithful map language store sections)
