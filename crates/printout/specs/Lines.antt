-- Lines written behind other lines, and counted.
use Rattle.std.specs.Prelude.{ℕ, ◌+◌, ◌*◌, ◌≤◌, length}
use mathlib.Core.{Path.◌≡◌, Bool.Bool, Bool.cond, List.List, List.flatten}
use Rattle.rules.specs.{Holding.Box, Tuning.tune, declared.State.State}
use Rattle.rules.specs.Lineup.{heading, channel_line, channel_lines, lines_of}
use Rattle.rules.specs.LabelLines.{label_line_of, label_lines_of, label_heading}
use Rattle.stream.specs.declared.Tally.{Tally}
use Rattle.text.specs.Written.{Wrote}
use Rattle.printout.specs.declared.Lines.{Lines}

unfoldable pub box_of : State → (store : List ℕ) → Box
box_of s store = record { state = s; store = store }

-- the lines in front of the channels
unfoldable pub heading_of : Tally → (store : List ℕ) → List ℕ
heading_of t store = heading t.state t.sections t.refused (length (lines_of (box_of t.state store)))

unfoldable pub label_heading_of : Tally → (store : List ℕ) → List ℕ
label_heading_of t store = label_heading t.state (length (label_lines_of (box_of t.state store)))

-- ---- the lines of both texts, by whether they are those of the labels

-- one channel's
unfoldable pub line_of : (labels : Bool) → Box → (number : ℕ) → List (List ℕ)
line_of labels b = cond labels (label_line_of b) (λ number. channel_line number (tune b.state b.store number))

-- how long it is at most
unfoldable pub longest : (labels : Bool) → ℕ
longest labels = cond labels 546 289

-- all of them
unfoldable pub lines_in : (labels : Bool) → Box → List (List ℕ)
lines_in labels b = channel_lines (line_of labels b) 4096 0

-- ---- written one by one, each of at most so many bytes

-- the lines `more` (one at most) were written behind those that a has counted, and r counts them too
pub record Adds (most : ℕ) (more : List (List ℕ)) (out : List ℕ) (a : Lines) (out' : List ℕ) (r : Lines) : Type 0 where
  pub wrote : Wrote out a.size (flatten more) out' r.size
  pub count : r.count ≡ a.count + length more
  pub short : r.size ≤ a.size + most
  pub one : length more ≤ 1

-- the lines of the channels below `number` are written and counted
pub record Below (most : ℕ) (line : ℕ → List (List ℕ)) (number : ℕ) (out out' : List ℕ) (r : Lines) : Type 0 where
  pub wrote : Wrote out 0 (flatten (channel_lines line number 0)) out' r.size
  pub count : r.count ≡ length (channel_lines line number 0)
  pub short : r.size ≤ number * most
  pub few : r.count ≤ number
