-- Two runs of offers that come to the same.
use Rattle.std.specs.Prelude.{ℕ, ◌≡◌, List}
use Rattle.rules.specs.Holding.{Box, run, answers}
use Rattle.rules.specs.Tuning.{tune}
use Rattle.rules.specs.{Label.labelled, Labelling.told_label}

-- what is the same of them: every answer, the state after, every channel's tuning, and what every channel's label tells; a name's place in the store may be
-- another
pub record SameRun (b : Box) (ss : List (List ℕ)) (c : Box) (gs : List (List ℕ)) : Type 0 where
  pub answers : answers c gs ≡ answers b ss
  pub state : (run c gs).state ≡ (run b ss).state
  pub tuning : (number : ℕ) → tune (run c gs).state (run c gs).store number ≡ tune (run b ss).state (run b ss).store number
  pub labels : (number : ℕ)
      → told_label (run c gs).store (labelled (run c gs).state (run c gs).store number)
      ≡ told_label (run b ss).store (labelled (run b ss).state (run b ss).store number)
