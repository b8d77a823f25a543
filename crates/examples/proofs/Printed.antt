-- Document 01, "The C side and the printed line-up": the two outputs that it shows, whole, computed from the rules on their inputs.
use mathlib.Core.Path.{◌≡◌, refl, ◌∙◌}
use Prim.Native.Nat.{ℕ}
use mathlib.Core.List.{List, [], ◌∷◌, ◌++◌, flatten}
use Rattle.rules.specs.Holding.{run}
use Rattle.rules.specs.Lineup.{text, fresh_box, lineup}
use Rattle.rules.specs.Lineup as Lineup
use Rattle.rules.specs.Feeding.{shown}
use Rattle.rules.specs.declared.State.{State}
use Rattle.rules.proofs.Hex.{hex}
use Rattle.rules.proofs.Computed.{computed}
use Rattle.examples.proofs.Plants.{example_plant, first_and_last}
use Rattle.examples.proofs.HoldingClauses.{french_low, names_next}

-- what a box prints whose state and store are computed once, before its channels are asked
abbrev pub shown_of : State → (store : List ℕ) → (sections refused : ℕ) → List ℕ
shown_of s store sections refused = Lineup.printed (record { state = s; store = store }) sections refused

pub record Printed : Type 0 where
  -- "Input 00 00 prints, whole": ten lines, with `ntt` after `dcm` since request 2026-01
  pub empty : lineup (hex "00 00") ≡ text "lineup=1\nmap=0\nsections=0\nrefused=0\ncds=none\nmms=none\nvcm=none\ndcm=none\nntt=none\nchannels=0\n"
  -- "The digital line comes from C1, C12 at mode index 1, C7 and C9, all live, first index 1": the whole output
  pub digital :
      lineup (hex "00 00" ++ flatten example_plant)
      ≡ text "lineup=1\nmap=0\nsections=4\nrefused=0\ncds=5\nmms=5\nvcm=5\ndcm=5\nntt=none\nchannels=1\n"
      ++ text "channel=3 kind=digital hidden=0 path=0 khz=63000 program=3 system=2 inner=15 split=0 format=8 symbols=5056941\n"
  -- channels 0 and 4095, the first and the last; the DCM has two sections; a repeat is not counted as refused, an unfinished last section is
  pub first_and_last_computed :
      lineup (hex "01 02" ++ flatten first_and_last)
      ≡ text "lineup=1\nmap=258\nsections=7\nrefused=1\ncds=1\nmms=2\nvcm=3\ndcm=4\nntt=none\nchannels=2\n"
      ++ text "channel=0 kind=application hidden=0 path=0 application=7\n"
      ++ text "channel=4095 kind=application hidden=1 path=1 application=258\n"
  -- names, version 7, and names in French, which are set aside and not counted as refused
  pub names :
      lineup (hex "00 00" ++ french_low ++ names_next)
      ≡ text "lineup=1\nmap=0\nsections=2\nrefused=0\ncds=none\nmms=none\nvcm=none\ndcm=none\nntt=7\nchannels=0\n"
  -- of two sections, of which one was refused, to a box that has nothing live
  pub counts :
      shown (record { box = fresh_box 258; sections = 2; refused = 1; kept = [] })
      ≡ text "lineup=1\nmap=258\nsections=2\nrefused=1\ncds=none\nmms=none\nvcm=none\ndcm=none\nntt=none\nchannels=0\n"

-- ---- in two steps: what is offered and how it is counted; what the box then prints

digital-offered : lineup (hex "00 00" ++ flatten example_plant) ≡ shown_of (run (fresh_box 0) example_plant).state (run (fresh_box 0) example_plant).store 4 0
unfolding computed
digital-offered = refl

digital-shown :
    shown_of (run (fresh_box 0) example_plant).state (run (fresh_box 0) example_plant).store 4 0
    ≡ text "lineup=1\nmap=0\nsections=4\nrefused=0\ncds=5\nmms=5\nvcm=5\ndcm=5\nntt=none\nchannels=1\n"
    ++ text "channel=3 kind=digital hidden=0 path=0 khz=63000 program=3 system=2 inner=15 split=0 format=8 symbols=5056941\n"
unfolding computed
digital-shown = refl

first-and-last-offered :
    lineup (hex "01 02" ++ flatten first_and_last)
    ≡ shown_of (run (fresh_box 0x0102) first_and_last).state (run (fresh_box 0x0102) first_and_last).store 7 1
unfolding computed
first-and-last-offered = refl

first-and-last-shown :
    shown_of (run (fresh_box 0x0102) first_and_last).state (run (fresh_box 0x0102) first_and_last).store 7 1
    ≡ text "lineup=1\nmap=258\nsections=7\nrefused=1\ncds=1\nmms=2\nvcm=3\ndcm=4\nntt=none\nchannels=2\n"
    ++ text "channel=0 kind=application hidden=0 path=0 application=7\n"
    ++ text "channel=4095 kind=application hidden=1 path=1 application=258\n"
unfolding computed
first-and-last-shown = refl

names-offered :
    lineup (hex "00 00" ++ french_low ++ names_next)
    ≡ shown_of (run (fresh_box 0) (french_low ∷ names_next ∷ [])).state (run (fresh_box 0) (french_low ∷ names_next ∷ [])).store 2 0
unfolding computed
names-offered = refl

names-shown :
    shown_of (run (fresh_box 0) (french_low ∷ names_next ∷ [])).state (run (fresh_box 0) (french_low ∷ names_next ∷ [])).store 2 0
    ≡ text "lineup=1\nmap=0\nsections=2\nrefused=0\ncds=none\nmms=none\nvcm=none\ndcm=none\nntt=7\nchannels=0\n"
unfolding computed
names-shown = refl

empty-offered : lineup (hex "00 00") ≡ shown_of (fresh_box 0).state (fresh_box 0).store 0 0
unfolding computed
empty-offered = refl

empty-shown :
    shown_of (fresh_box 0).state (fresh_box 0).store 0 0
    ≡ text "lineup=1\nmap=0\nsections=0\nrefused=0\ncds=none\nmms=none\nvcm=none\ndcm=none\nntt=none\nchannels=0\n"
unfolding computed
empty-shown = refl

counts-given : shown (record { box = fresh_box 258; sections = 2; refused = 1; kept = [] }) ≡ shown_of (fresh_box 258).state (fresh_box 258).store 2 1
unfolding computed
counts-given = refl

counts-shown :
    shown_of (fresh_box 258).state (fresh_box 258).store 2 1
    ≡ text "lineup=1\nmap=258\nsections=2\nrefused=1\ncds=none\nmms=none\nvcm=none\ndcm=none\nntt=none\nchannels=0\n"
unfolding computed
counts-shown = refl

pub printed : Printed
printed =
    record {
      empty = empty-offered ∙ empty-shown;
      digital = digital-offered ∙ digital-shown;
      first_and_last_computed = first-and-last-offered ∙ first-and-last-shown;
      names = names-offered ∙ names-shown;
      counts = counts-given ∙ counts-shown;
    }
