-- Request 2026-01: what the program `labels` prints, whole, computed from the rules on its inputs. (Its lines and its heading: PrintClauses.antt.)
use mathlib.Core.Path.{◌≡◌, refl, ◌∙◌}
use Prim.Native.Nat.{ℕ}
use mathlib.Core.List.{List, [], ◌∷◌, ◌++◌, flatten, map}
use Rattle.rules.specs.Holding.{run}
use Rattle.rules.specs.Lineup.{text, fresh_box}
use Rattle.rules.specs.LabelLines.{printed_labels, labels}
use Rattle.rules.specs.declared.State.{State}
use Rattle.rules.proofs.Hex.{hex}
use Rattle.rules.proofs.Computed.{computed}
use Rattle.examples.proofs.Plants.{example_plant, names_plain}

-- the plant of the paper's whole output, and names: that of number 0x1234, which is channel 3's, and that of the application 0x1234
abbrev pub named_example : List (List ℕ)
named_example = example_plant ++ (names_plain ∷ [])

-- for map 0x0102, without a carrier and a mode, the highest channel first: 4095 is the application 0x0102; 6 has a record and isn't defined; 5 is number
-- 0x1234, whose carrier isn't there; 3 is the application 0x1234; 0 is the application 7. Names, version 9: of the application 0x0102, with every digit
-- in front and behind; of number 0x1234, which labels neither channel 5, since it has no line, nor channel 3; of the application 7
abbrev pub named_plant : List (List ℕ)
named_plant =
    hex "C2 30 0D 00 01 00 01 93 03 E5 00 00 A4 DF F3 22"
    ∷ hex "C2 30 0D 00 01 00 02 93 03 E5 00 00 89 A7 E4 AA"
    ∷ (hex "C4 30 41 00 00 01 02 00 00 00 00 00 00 05 0F FF 80 01 02 00 00 00 00 00 06 80 00 07 00 00 00 00 00 05 00 12 34 02 00 03 01"
    ++ hex "00 03 80 12 34 00 00 00 00 00 00 80 00 07 00 00 00 00 93 03 E5 00 00 3C C4 04 BD")
    ∷ hex "C4 30 11 00 01 01 02 00 00 01 86 93 03 E5 00 01 75 27 91 9D"
    ∷ hex "C4 30 11 00 01 01 02 0F FF 01 81 93 03 E5 01 01 D8 45 CF 24"
    ∷ (hex "C3 30 34 00 65 6E 67 06 03 80 01 02 12 00 10 01 12 23 34 45 56 67 78 89 9A AB BC CD DE EF F0 00 00 12 34 03 00 01 41 00"
    ++ hex "80 00 07 01 9F 00 93 03 E9 00 00 98 1A BD 0B")
    ∷ []

-- what a box prints whose state and store are computed once, before its channels are asked
abbrev pub names_shown : State → (store : List ℕ) → List ℕ
names_shown s store = printed_labels (record { state = s; store = store })

pub record PrintedLabels : Type 0 where
  -- input 00 00: four lines
  pub empty : labels (hex "00 00") ≡ text "labels=1\nmap=0\nntt=none\nchannels=0\n"
  -- the paper's plant, with names
  pub named : labels (hex "00 00" ++ flatten named_example) ≡ text "labels=1\nmap=0\nntt=5\nchannels=1\nchannel=3 label=000141\n"
  -- a line for each channel that `lineup` lists and for no other, ascending, the first and the last too; nothing stands behind `label=` of channel 3, which
  -- has no name
  pub plant :
      labels (hex "01 02" ++ flatten named_plant)
      ≡ text "labels=1\nmap=258\nntt=9\nchannels=3\nchannel=0 label=9F\nchannel=3 label=\n"
      ++ text "channel=4095 label=00100112233445566778899AABBCCDDEEFF0\n"
  -- fewer than two bytes
  pub refused : map labels ([] ∷ hex "01" ∷ []) ≡ text "labels=refused\n" ∷ text "labels=refused\n" ∷ []

-- ---- in two steps: what is offered; what the box then prints

empty-offered : labels (hex "00 00") ≡ names_shown (fresh_box 0).state (fresh_box 0).store
unfolding computed
empty-offered = refl

empty-shown : names_shown (fresh_box 0).state (fresh_box 0).store ≡ text "labels=1\nmap=0\nntt=none\nchannels=0\n"
unfolding computed
empty-shown = refl

named-offered :
    labels (hex "00 00" ++ flatten named_example)
    ≡ names_shown (run (fresh_box 0) named_example).state (run (fresh_box 0) named_example).store
unfolding computed
named-offered = refl

named-shown :
    names_shown (run (fresh_box 0) named_example).state (run (fresh_box 0) named_example).store
    ≡ text "labels=1\nmap=0\nntt=5\nchannels=1\nchannel=3 label=000141\n"
unfolding computed
named-shown = refl

plant-offered :
    labels (hex "01 02" ++ flatten named_plant)
    ≡ names_shown (run (fresh_box 0x0102) named_plant).state (run (fresh_box 0x0102) named_plant).store
unfolding computed
plant-offered = refl

plant-shown :
    names_shown (run (fresh_box 0x0102) named_plant).state (run (fresh_box 0x0102) named_plant).store
    ≡ text "labels=1\nmap=258\nntt=9\nchannels=3\nchannel=0 label=9F\nchannel=3 label=\n"
    ++ text "channel=4095 label=00100112233445566778899AABBCCDDEEFF0\n"
unfolding computed
plant-shown = refl

too_short : map labels ([] ∷ hex "01" ∷ []) ≡ text "labels=refused\n" ∷ text "labels=refused\n" ∷ []
unfolding computed
too_short = refl

pub printed-labels : PrintedLabels
printed-labels =
    record {
      empty = empty-offered ∙ empty-shown;
      named = named-offered ∙ named-shown;
      plant = plant-offered ∙ plant-shown;
      refused = too_short;
    }
