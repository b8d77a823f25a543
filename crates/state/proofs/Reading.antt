-- Check 16 of one place, and of all places of a table.
use Prim.Native.Nat.{ℕ, zero, suc, ◌<◌}
use native.Mathlib.Omega.{arith}
use mathlib.Core.Path.{◌≡◌, refl, sym, ◌∙◌}
use mathlib.Core.{Bool.Bool, Bool.true, Bool.false, List.List, List.[]}
use Rattle.std.specs.Prelude.{slice_index_or}
use Rattle.rules.specs.Refusals.{OrRefused}
use Rattle.rules.specs.Section.{Reading, wrong, right, read_section, head_of, read_as}
use Rattle.rules.specs.Holding.{not_ours, other_map, read_for, section_at, live_at}
use Rattle.rules.specs.Tuning.{is_section, reads_as, every, live_reading, place_reads}
use Rattle.rules.proofs.{Taken.differ, LivePlaces.every-at}
use Rattle.rules.specs.{declared.Table.Table, declared.State.State, declared.SectionHead.SectionHead}

-- whether the head that was read is that of section n of a live table
abbrev pub by_head : State → Table → ℕ → OrRefused SectionHead → Bool
by_head s t n (wrong k) = false
by_head s t n (right h) = is_section s t n h.table (not_ours s h.table h.map h.language) h.revision

read_by_head : (s : State) (t : Table) (n : ℕ) (section : List ℕ) (r : Reading) → reads_as s t n r ≡ by_head s t n (read_as section r)
unfolding read_as reads_as head_of other_map
read_by_head s t n section (wrong k) = refl
read_by_head s t n section (right c) = refl

pub place_by_head : (s : State) (store : List ℕ) (t : Table) (n : ℕ) (section : List ℕ) → section ≡ section_at store (live_at s t n)
    → place_reads s store t n ≡ by_head s t n (read_as section (read_section section))
unfolding place_reads live_reading read_for
place_by_head s store t n section there = rw (← there) (read_by_head s t n section (read_section section))

-- ---- all places

every-all : (n : ℕ) (test : ℕ → Bool) → ((k : ℕ) → k < n → test k ≡ true) → every n test ≡ true
unfolding every
every-all zero test h = refl
every-all (suc n) test h = rw (every-all n test (λ k lt. h k (omega arith)), h n (omega arith))

every-fails : (n : ℕ) (test : ℕ → Bool) (k : ℕ) → k < n → test k ≡ false → every n test ≡ false
every-fails n test k lt e = go (every n test) refl
  where
    go : (b : Bool) → every n test ≡ b → b ≡ false
    go true q = absurd (differ (sym (every-at n test q k lt) ∙ e))
    go false q = refl

-- what the answer of `all` says (k is also an index of a list there: `search` looks at such for the facts of a range)
pub every_answer : (n : ℕ) (test : ℕ → Bool) (b : Bool)
    → (b ≡ true → (xs : List ℕ) (k : ℕ) → slice_index_or xs k 0 ≡ 0 → k < n → test k ≡ true)
    → (b ≡ false → (k : ℕ) × (k < n) × (test k ≡ false)) → b ≡ every n test
every_answer n test true all one = sym (every-all n test (λ k lt. all refl [] k refl lt))
every_answer n test false all one = sym (every-fails n test (one refl).0 (one refl).1 (one refl).2)
