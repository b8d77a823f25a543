-- Request 2026-01, the label of a channel through `labelled` of live boxes, computed: names found and not found, and "the label question refuses as tuning does
-- by 1, 2 and 14 to 18, with 16 for live names too", in their order.
use Prim.Native.Nat.{ℕ}
use mathlib.Core.Path.{◌≡◌, refl}
use mathlib.Core.List.{List, [], ◌∷◌, ◌++◌, map}
use lib.ListN.{take, replicate}
use Rattle.rules.specs.Holding.{none_live, none_gathered, fresh_holding, with}
use Rattle.rules.specs.Tuning.{tune}
use Rattle.rules.specs.Label.{labelled, label_bytes}
use Rattle.rules.specs.declared.Table.TheVariants.{Cds, Mms, Vcm, Dcm, Ntt}
use Rattle.rules.specs.declared.Tuned.TheVariants as Tuned
use Rattle.rules.specs.declared.Labelled.TheVariants.{Named, Fallback}
use Rattle.rules.specs.Lineup.{text}
use Rattle.rules.specs.LabelLines.{label_line_of}
use Rattle.examples.proofs.Plants.{plant_cds, plant_mms, plant_vcm, plant_dcm, plant_ntt}
use Rattle.rules.proofs.Hex.{hex}
use Rattle.rules.proofs.Computed.{computed}
use Rattle.examples.proofs.HoldingClauses.{live, gathered, holding, empty_store}
use Rattle.examples.proofs.TuningClauses.{live5}
use Rattle.examples.proofs.LiveBoxes.{padded, store_of, plant_store}
use Rattle.examples.proofs.LabelClauses.{names_held, low_names, high_names, small_names}
use Rattle.rules.specs.Refusals.{wrong, right}

-- ---- channels that don't tune, for map 0x0102: 2 to 5 are number 0x1234, without a carrier reference, without a carrier, out of reach, without a mode; 6 is
-- the application 0x1234; 7 is number 0; of 8 the first record says 0x1235, the second 0x1234; 9 has a record and is not defined, 10 is defined and has none
abbrev pub named_store : List ℕ
named_store =
    store_of (hex "C2 30 19 00 01 02 01 01 00 00 15 17 00 01 00 00 16 44 00 93 03 E5 00 00 8A 20 1C 25")
    (hex "C2 30 0D 00 01 00 02 93 03 E5 00 00 89 A7 E4 AA")
    (hex "C4 30 65 00 00 01 02 00 00 00 00 00 00 09 00 02 00 12 34 00 00 03 01 00 03 00 12 34 09 00 03 01 00 04 00 12 34 01 00 03 01"
    ++ hex "00 05 00 12 34 02 00 03 01 00 06 80 12 34 00 00 00 00 00 07 00 00 00 02 00 03 01 00 08 00 12 35 02 00 03 01"
    ++ hex "00 08 00 12 34 02 00 03 01 00 09 00 12 34 02 00 03 01 93 03 E5 00 00 14 B6 AD D0")
    (hex "C4 30 13 00 01 01 02 00 02 03 87 01 81 93 03 E5 00 00 24 E7 2A 4B") (padded 1024 low_names ++ high_names)

-- ---- a small plant, for map 0x0102: channel 3 is the application 0x1234, 4 is defined and has no record; with these names

abbrev pub small_store : (names : List ℕ) → List ℕ
small_store names =
    store_of (hex "C2 30 0D 00 01 00 01 93 03 E5 00 00 A4 DF F3 22") (hex "C2 30 0D 00 01 00 02 93 03 E5 00 00 89 A7 E4 AA")
    (hex "C4 30 1D 00 00 01 02 00 00 00 00 00 00 01 00 03 80 12 34 00 00 00 00 93 03 E5 00 00 7A 4D 33 2D")
    (hex "C4 30 11 00 01 01 02 00 03 01 82 93 03 E5 00 00 F1 A4 DC 94") names

abbrev pub plant_named : List ℕ
plant_named = store_of plant_cds plant_mms plant_vcm plant_dcm plant_ntt

pub record LabelledBoxes : Type 0 where
  -- ---- named: where the name stands in the store, and how many bytes it has. The flag and the number are compared, and the first record with both is taken,
  -- in the lowest section (readings, Q14); a record of a later section is found too, and number 0 is a number (Q12). Refusals 19 to 21 never come (Q13). The
  -- first record of a channel says its flag and number; one without a name has the fallback; then 17 and 18
  pub named :
      map (labelled (names_held 1 6 1 0) named_store) (2 ∷ 3 ∷ 4 ∷ 5 ∷ 6 ∷ 7 ∷ 8 ∷ 9 ∷ 10 ∷ [])
      ≡ right (Named 32789 6)
      ∷ right (Named 32789 6)
      ∷ right (Named 32789 6)
      ∷ right (Named 32789 6)
      ∷ right (Named 32781 3)
      ∷ right (Named 33821 2)
      ∷ right Fallback
      ∷ wrong 17
      ∷ wrong 18
      ∷ []
  pub not_tuned :
      map (tune (names_held 1 6 1 0) named_store) (2 ∷ 3 ∷ 4 ∷ 5 ∷ []) ≡ wrong 19 ∷ wrong 19 ∷ wrong 20 ∷ wrong 21 ∷ []
  -- the plant with another value in every field: a hidden digital channel and an application, both of path 1, and an analogue one, which has no name; and
  -- what `labels` prints of each, also where the names are damaged, so that the label is refused as 16 and the channel has its line
  pub plant : map (labelled live5 plant_named) (0x123 ∷ 0x124 ∷ 0x125 ∷ []) ≡ right (Named 32797 6) ∷ right (Named 32813 4) ∷ right Fallback ∷ []
  pub plant_lines :
      map (label_line_of (record { state = live5; store = plant_named })) (0x122 ∷ 0x123 ∷ 0x124 ∷ 0x125 ∷ [])
      ≡ [] ∷ (text "channel=291 label=803F024E2D9F\n" ∷ []) ∷ (text "channel=292 label=00024142\n" ∷ []) ∷ (text "channel=293 label=\n" ∷ []) ∷ []
  pub damaged_line : labelled live5 plant_store 0x124 ≡ wrong 16
  pub damaged_lines : label_line_of (record { state = live5; store = plant_store }) 0x124 ≡ text "channel=292 label=\n" ∷ []
  -- all of the name, its mode and length bytes too (Q10); the fallback as it is lent
  pub bytes :
      map (label_bytes named_store (hex "AA BB")) (right (Named 32789 6) ∷ right (Named 32781 3) ∷ right (Named 33821 2) ∷ right Fallback ∷ [])
      ≡ hex "80 3F 02 4E 2D 9F" ∷ hex "00 01 4C" ∷ hex "00 00" ∷ hex "AA BB" ∷ []
  -- ---- the fallback where the table isn't live, whatever stands in its places, and where names are only gathered, in the half where they stand
  pub not_live : labelled (with live5 Ntt (holding none_live (gathered 1 5 1 0x01) 1)) (small_store small_names) 3 ≡ right Fallback
  pub not_there : map (labelled (with live5 Ntt fresh_holding) (small_store [])) (3 ∷ 4 ∷ 5 ∷ []) ≡ right Fallback ∷ wrong 18 ∷ wrong 17 ∷ []
  -- ---- refusals 1, 2, 14, 15, 16, in their order
  pub order_one : labelled (with live5 Ntt (holding none_live none_gathered 2)) (take 40959 (small_store small_names)) 4096 ≡ wrong 1
  pub order_two : labelled (with live5 Ntt (holding none_live none_gathered 2)) (small_store small_names) 4096 ≡ wrong 2
  -- a store of before request 2026-01 is too short (T16); one of 40,960 bytes is not, nor a longer one
  pub one :
      map (λ size. labelled (with live5 Mms fresh_holding) (replicate size 0) 3) (32768 ∷ 40959 ∷ 40960 ∷ 40961 ∷ [])
      ≡ wrong 1 ∷ wrong 1 ∷ wrong 15 ∷ wrong 15 ∷ []
  pub order_fourteen : map (labelled (with live5 Dcm fresh_holding) empty_store) (4095 ∷ 4096 ∷ []) ≡ wrong 15 ∷ wrong 14 ∷ []
  -- 15: each of the four tables of tuning, before 16
  pub fifteen :
      map (λ t. labelled (with live5 t fresh_holding) empty_store 5) (Cds ∷ Mms ∷ Vcm ∷ Dcm ∷ []) ≡ wrong 15 ∷ wrong 15 ∷ wrong 15 ∷ wrong 15 ∷ []
  -- 16: a place of each of the five tables that no longer reads right, before 17; where names aren't live theirs is no place
  pub sixteen :
      map (λ t. labelled (with live5 t (holding (live 1 5 0) none_gathered 1)) (small_store small_names) 5) (Cds ∷ Mms ∷ Vcm ∷ Dcm ∷ Ntt ∷ [])
      ≡ wrong 16 ∷ wrong 16 ∷ wrong 16 ∷ wrong 16 ∷ wrong 16 ∷ []
  -- ---- names change no tuning: there, not live (damaged: LiveBoxes.antt)
  pub tunes_same :
      tune live5 (small_store small_names) 3 ∷ tune (with live5 Ntt fresh_holding) (small_store []) 3 ∷ []
      ≡ right (Tuned.Application 0 0 0x1234) ∷ right (Tuned.Application 0 0 0x1234) ∷ []

pub labelled-boxes : LabelledBoxes
unfolding computed
labelled-boxes =
    record {
      named = refl;
      not_tuned = refl;
      plant = refl;
      plant_lines = refl;
      damaged_line = refl;
      damaged_lines = refl;
      bytes = refl;
      not_live = refl;
      not_there = refl;
      order_one = refl;
      order_two = refl;
      one = refl;
      order_fourteen = refl;
      fifteen = refl;
      sixteen = refl;
      tunes_same = refl;
    }
