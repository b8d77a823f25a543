-- Request 2026-01: what the program `labels` prints, byte for byte, of the bytes that it reads. For each channel that `lineup` lists, ascending,
-- `channel=3 label=` and the label's bytes in hexadecimal; the program lends an empty fallback, so that nothing stands there without a name.
use Rattle.std.specs.Prelude.{ℕ, ◌+◌, ◌/◌, ◌%◌, cond, length, ltb, eqb}
use mathlib.Core.List.{List, [], ◌∷◌, ◌++◌, flatten}
use Rattle.rules.specs.Bytes.{word, from}
use Rattle.rules.specs.Holding.{Box, run}
use Rattle.rules.specs.Tuning.{tune}
use Rattle.rules.specs.Label.{labelled, label_bytes}
use Rattle.rules.specs.Lineup.{text, decimal, field, line, sections_of, fresh_box, version, channel_line, channel_lines}
use Rattle.rules.specs.declared.State.{State}

-- two digits a byte, capital letters
unfoldable pub hex_digit : ℕ → ℕ
hex_digit n = cond (ltb n 10) (48 + n) (55 + n)

unfoldable pub hexadecimal : List ℕ → List ℕ
hexadecimal [] = []
hexadecimal (b ∷ bs) = hex_digit (b / 16) ∷ hex_digit (b % 16) ∷ hexadecimal bs

unfoldable pub label_line : (number : ℕ) → (label : List ℕ) → List ℕ
label_line number label = field "channel=" number ++ line " label=" (hexadecimal label)

-- a line where the line-up has one
unfoldable pub label_line_of : Box → (number : ℕ) → List (List ℕ)
label_line_of b number =
    cond (eqb (length (channel_line number (tune b.state b.store number))) 0) []
    (label_line number (label_bytes b.store [] (labelled b.state b.store number)) ∷ [])

unfoldable pub label_lines_of : Box → List (List ℕ)
label_lines_of b = channel_lines (label_line_of b) 4096 0

-- in front of them: labels=1, map, ntt (live version or none), channels
unfoldable pub label_heading : State → (channels : ℕ) → List ℕ
label_heading s channels =
    text "labels=1\n"
    ++ line "map=" (decimal s.settings.map)
    ++ line "ntt=" (version s.tables.ntt.live)
    ++ line "channels=" (decimal channels)

unfoldable pub printed_labels : Box → List ℕ
printed_labels b = label_heading b.state (length (label_lines_of b)) ++ flatten (label_lines_of b)

-- fewer than two bytes print only `labels=refused`
unfoldable pub labels : (input : List ℕ) → List ℕ
labels input =
    cond (ltb (length input) 2) (text "labels=refused\n")
    (printed_labels (run (fresh_box (word 0 input)) (sections_of (from input 2))))
