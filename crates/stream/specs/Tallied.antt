-- The rules' intake, as the code holds it: the tally by value, the store that is lent with it, and the bytes kept. Counts are
-- of 64 bits, so what counts says how much room they need.
use Rattle.std.specs.Prelude.{ℕ, ◌+◌, ◌^◌, ◌≤◌, ◌<◌}
use mathlib.Core.{Path.◌≡◌, List.List, List.[]}
use Rattle.rules.specs.Holding.{fresh}
use Rattle.rules.specs.Feeding.{Intake, begin, feed_all, finish}
use Rattle.stream.specs.declared.Tally.{Tally}

unfoldable pub intake_of : Tally → (store kept : List ℕ) → Intake
intake_of t store kept =
    record {
      box = record { state = t.state; store = store };
      sections = t.sections;
      refused = t.refused;
      kept = kept;
    }

unfoldable pub begun : (map : ℕ) → (language : List ℕ) → Tally
begun map language = record { state = fresh map language; sections = 0; refused = 0 }

-- some pieces were fed to a fresh box, and what was kept of the last is offered. A contract cannot say which bytes a read gives, so these are
-- some
pub record Gathered (map : ℕ) (t : Tally) (store : List ℕ) : Type 0 where
  pub pieces : List (List ℕ)
  pub is : intake_of t store [] ≡ finish (feed_all (begin map) pieces)

-- n more sections can be counted
pub record Room (t : Tally) (n : ℕ) : Type 0 where
  pub sections : t.sections + n < 2 ^ 64
  pub refused : t.refused + n < 2 ^ 64

-- at most n more were counted
pub record Grew (t r : Tally) (n : ℕ) : Type 0 where
  pub sections : r.sections ≤ t.sections + n
  pub refused : r.refused ≤ t.refused + n
