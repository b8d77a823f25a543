-- Two boxes alike tune alike, and a section that has grown says the same: gathering and tuning look at what a section means and at its
-- revision, and at no more.
use Prim.Native.Nat.{ℕ, zero, suc, ◌<◌}
use native.Mathlib.Omega.{arith}
use mathlib.Core.{Path.◌≡◌, Path.refl, Path.sym, Path.ap, Path.◌∙◌, Bool.Bool, Bool.true, Bool.false, Bool.cond, Bool.◌&&◌, Logic.inl, List.List, List.[]}
use lib.{ListN.length, Dec.leb}
use borrow.Author.Tests.{eqb-true}
use Rattle.rules.specs.{Form.Plant, Section.Content, Section.right, Section.read_section, Meaning.Meaning, Meaning.meant, Growth.Grown}
use Rattle.rules.specs.{declared.Table.Table, declared.Revision.Revision, declared.State.State}
use Rattle.rules.specs.Gathering as Gathering
use Rattle.rules.specs.Holding.{limit_of, listed, read_for, section_at, store_size, holding_of, live_at, well_formed, not_ours, other_map, Box, box}
use Rattle.rules.specs.Tuning.{needed_tables, all_live, live_count, live_reading, is_section, reads_as, every, place_reads, table_reads, all_read}
use Rattle.rules.specs.Tuning.{table_live, records_in, live_section, live_records, plant, is_channel, defined, needs, look_up, tune}
use Rattle.rules.specs.{Search.first, Label.names_read, Label.labelled, Labelling.names_in, Labelling.LabelTold, Labelling.told_label}
use Rattle.rules.specs.declared.Table.TheVariants.{Cds, Mms, Vcm, Dcm, Ntt}
use Rattle.rules.proofs.{LiveRecords.same_sections, States.each_same, LivePlaces.live-says, Grown.with_closing, Grown.grown-reads}
use Rattle.rules.proofs.Labels.{told_wants, names_of, channel_told, told_is}
use Rattle.rules.proofs.Alike.{meaning, Enough, by-same}
use Rattle.rules.proofs.Alike as Alikes

-- what holding and tuning look at: what a section means, and its revision
abbrev pub says : Content → Meaning × Revision
says c = (meant c, c.revision)

table-says : (c d : Content) → says c ≡ says d → c.table ≡ d.table
unfolding meant
table-says c d e = ap (λ (m : Meaning × Revision). m.0.table) e

revision-says : (c d : Content) → says c ≡ says d → c.revision ≡ d.revision
revision-says c d e = ap (λ (m : Meaning × Revision). m.1) e

map-says : (s : State) (c d : Content) → says c ≡ says d → other_map s c ≡ other_map s d
unfolding other_map meant
map-says s c d e = ap (λ (m : Meaning × Revision). not_ours s m.0.table m.0.map m.0.language) e

pub enough : Enough box says
enough = record { table = table-says; revision = revision-says; aside = map-says; word = λ s c d e. refl }

abbrev pub SaySame : State → (x y : List ℕ) → Type 0
SaySame = Alikes.SaySame box says

abbrev pub Alike : (b c : Box) → Type 0
Alike = Alikes.Alike box says

-- a section that has grown reads right, means the same and has the same revision
pub grown-means : (s g : List ℕ) (w : Grown s g)
    → (c : Content) × (read_section g ≡ right c) × (meant c ≡ meant w.content) × (c.revision ≡ w.content.revision)
unfolding meant
grown-means s g w = (with_closing w.content w.after.closing, grown-reads s g w, refl, refl)

pub grown-says : (u : State) (s g : List ℕ) → Grown s g → SaySame u s g
unfolding meaning meant read_for
grown-says u s g w = record { same = rw (grown-reads s g w, w.reads) refl }

reads_same : (s : State) (t : Table) (n : ℕ) (c d : Content) → says c ≡ says d → reads_as s t n (right c) ≡ reads_as s t n (right d)
unfolding reads_as other_map meant
reads_same s t n c d e = ap (λ (m : Meaning × Revision). is_section s t n m.0.table (not_ours s m.0.table m.0.map m.0.language) m.1) e

records-same : {R : Type 0} (records : Plant → List R) (c d : Content) → says c ≡ says d
    → records_in (λ x. records x.lists) (right c) ≡ records_in (λ x. records x.lists) (right d)
unfolding records_in meant
records-same records c d e = ap (λ (m : Meaning × Revision). records m.0.lists) e

pub every-same : (n : ℕ) (f g : ℕ → Bool) → ((k : ℕ) → k < n → f k ≡ g k) → every n f ≡ every n g
unfolding every
every-same zero f g e = refl
every-same (suc n) f g e = rw (every-same n f g (λ k lt. e k (omega arith)), e n (omega arith)) refl

module _ (b c : Box) (a : Alike b c) where
  abbrev s : State
  s = b.state

  -- of a live table
  module _ (t : Table) (on : (holding_of s t).live.present ≡ 1) where
    place-alike : (n : ℕ) → n < live_count s t → SaySame s (section_at b.store (live_at s t n)) (section_at c.store (live_at s t n))
    unfolding live_count Gathering.live_at
    place-alike n lt = a.places t (holding_of s t).half n (inl (on, refl, omega arith))

    table-alike : table_reads s c.store t ≡ table_reads s b.store t
    unfolding table_reads place_reads live_reading
    table-alike = every-same (live_count s t) _ _ (λ n lt. by-same box says (reads_as s t n) (reads_same s t n) (place-alike n lt))

    records-alike : {R : Type 0} (records : Plant → List R)
        → live_records (λ x. records x.lists) s c.store t ≡ live_records (λ x. records x.lists) s b.store t
    unfolding live_records live_section live_reading
    records-alike records =
        same_sections _ _ (live_count s t) 0
        (λ n lt. by-same box says (records_in (λ x. records x.lists)) (records-same records) (place-alike n (omega arith)))

  module _ (live : all_live s ≡ true) where
    on : (t : Table) → listed needed_tables t ≡ true → (holding_of s t).live.present ≡ 1
    on = (live-says s live).live

    read_alike : all_read s c.store ≡ all_read s b.store
    unfolding all_read
    read_alike = each_same needed_tables (table_reads s c.store) (table_reads s b.store) (λ t h. table-alike t (on t h))

    plant-alike : plant s c.store ≡ plant s b.store
    unfolding plant
    plant-alike =
        rw (records-alike Cds (on Cds refl) (λ p. p.carriers), records-alike Mms (on Mms refl) (λ p. p.modes))
        (rw (records-alike Vcm (on Vcm refl) (λ p. p.channels), records-alike Dcm (on Dcm refl) (λ p. p.ranges)) refl)

  pub tune-alike : (number : ℕ) → tune c.state c.store number ≡ tune s b.store number
  unfolding tune needs
  tune-alike number = rw (a.state, a.size) (go (all_live s) refl)
    where
      go : (live : Bool) → all_live s ≡ live
          → needs (leb (store_size (limit_of s)) (length b.store)) 1
          (needs (well_formed s) 2 (needs (leb number 4095) 14 (needs live 15 (needs (all_read s c.store) 16 (look_up (plant s c.store) number)))))
          ≡ needs (leb (store_size (limit_of s)) (length b.store)) 1
          (needs (well_formed s) 2 (needs (leb number 4095) 14 (needs live 15 (needs (all_read s b.store) 16 (look_up (plant s b.store) number)))))
      go false e = refl
      go true e = rw (read_alike e, plant-alike e) refl

  -- ---- and they tell the same of every label

  names-read-alike : names_read s c.store ≡ names_read s b.store
  unfolding names_read table_live
  names-read-alike = go (table_live s Ntt) refl
    where
      go : (live : Bool) → table_live s Ntt ≡ live → cond live (table_reads s c.store Ntt) true ≡ cond live (table_reads s b.store Ntt) true
      go true e = table-alike Ntt (eqb-true (holding_of s Ntt).live.present 1 e)
      go false e = refl

  names-alike : names_of s c.store ≡ names_of s b.store
  unfolding table_live
  names-alike = go (table_live s Ntt) refl
    where
      go : (live : Bool) → table_live s Ntt ≡ live → cond live (live_records names_in s c.store Ntt) [] ≡ cond live (live_records names_in s b.store Ntt) []
      go true e = records-alike Ntt (eqb-true (holding_of s Ntt).live.present 1 e) (λ p. p.names)
      go false e = refl

  -- what is told where the tables that tuning needs are live, or not
  abbrev Told : (number : ℕ) → (live : Bool) → List ℕ → LabelTold
  Told number live store =
      told_wants (leb (store_size (limit_of s)) (length store)) 1 (told_wants (well_formed s) 2 (told_wants (leb number 4095) 14 (told_wants live 15
      (told_wants (all_read s store && names_read s store) 16 (told_wants (defined (plant s store).ranges number) 17
      (channel_told (names_of s store) (first (is_channel number) (plant s store).channels)))))))

  pub label-alike : (number : ℕ) → told_label c.store (labelled c.state c.store number) ≡ told_label b.store (labelled s b.store number)
  label-alike number =
      ap (λ (x : State). told_label c.store (labelled x c.store number)) a.state ∙ told_is s c.store number
      ∙ go (all_live s) refl ∙ sym (told_is s b.store number)
    where
      go : (live : Bool) → all_live s ≡ live → Told number live c.store ≡ Told number live b.store
      go false e = rw a.size refl
      go true e = rw (a.size, read_alike e, names-read-alike, plant-alike e, names-alike) refl
