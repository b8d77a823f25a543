-- A listing of a live table: the entries of the numbers from 0 on, as many as there is room for.
use Rattle.std.specs.Prelude.{ℕ, ◌+◌, ◌*◌, ◌^◌, ◌<◌}
use mathlib.Core.{Path.◌≡◌, Bool.cond, Bool.◌&&◌, List.List}
use lib.{ListN.length, ListN.get_or, Dec.eqb}
use Rattle.rules.specs.{Tuning.covers, declared.Table.Table, declared.State.State}
use Rattle.search.specs.Entries.{span_of, entry_of}

pub record Lists (s : State) (store : List ℕ) (t : Table) (entries : List ℕ) : Type 0 where
  pub is : (number : ℕ) → number < length entries → get_or entries number 0 ≡ entry_of s store t number

-- no entry names a record
pub record Blank (entries : List ℕ) : Type 0 where
  pub none : (number : ℕ) → get_or entries number 0 ≡ 0

-- the entries of so many numbers, where they named nothing, are now this one; the others stay
pub record Marked (from count entry : ℕ) (before after : List ℕ) : Type 0 where
  pub long : length after ≡ length before
  pub is : (number : ℕ) → number < length before
      → get_or after number 0 ≡ cond (covers from count number && eqb (get_or before number 0) 0) entry (get_or before number 0)

-- the record at the front of the bytes, which stands at a place of the store, got its entry; it takes so many indices
pub record Entered (t : Table) (index : ℕ) (bs : List ℕ) (place : ℕ) (before after : List ℕ) (takes : ℕ) : Type 0 where
  pub marked : Marked (span_of t index bs).first (span_of t index bs).count (1 + place + index * 2 ^ 32) before after
  pub counts : takes ≡ (span_of t index bs).takes
