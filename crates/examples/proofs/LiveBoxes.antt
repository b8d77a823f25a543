-- Document 01, "From number to tuner", through `tune` of live boxes, computed: C2 to C4, a plant with another value in every field, two
-- sections of one table, and refusals 1, 2, 14, 15 and 16 in their order.
use Prim.Native.Nat.{ℕ, ◌-◌}
use mathlib.Core.Path.{◌≡◌, refl}
use mathlib.Core.List.{List, [], ◌∷◌, ◌++◌, map}
use lib.ListN.{length, take, replicate}
use Rattle.rules.specs.Holding.{none_live, none_gathered, fresh_holding, with}
use Rattle.rules.specs.Tuning.{tune}
use Rattle.rules.specs.Lineup.{english}
use Rattle.rules.specs.declared.Table.TheVariants.{Cds, Mms, Vcm, Dcm}
use Rattle.rules.specs.declared.State.{State}
use Rattle.rules.specs.declared.Tuned.{Tuned}
use Rattle.rules.proofs.Hex.{hex}
use Rattle.rules.proofs.Computed.{computed}
use Rattle.rules.proofs.Examples.{borders_cds, borders_mms, borders_vcm, borders_dcm}
use Rattle.examples.proofs.Plants.{plant_cds, plant_mms, plant_vcm, plant_dcm}
use Rattle.examples.proofs.HoldingClauses.{live, holding, empty_store}
use Rattle.examples.proofs.TuningClauses.{c12, live5}
use Rattle.rules.specs.Refusals.{wrong, right}

-- ---- live boxes: of each table the bytes of its places, half 0 first, with zeros behind them

abbrev pub padded : (size : ℕ) → List ℕ → List ℕ
padded size bs = bs ++ replicate (size - length bs) 0

abbrev pub store_of : (cds mms vcm dcm ntt : List ℕ) → List ℕ
store_of cds mms vcm dcm ntt = padded 8192 cds ++ (padded 8192 mms ++ (padded 8192 vcm ++ (padded 8192 dcm ++ padded 8192 ntt)))

-- the plant with another value in every field, for map 0x0102; its names are live and damaged, here as in what follows, and tuning needs none
abbrev pub plant_store : List ℕ
plant_store = store_of plant_cds plant_mms plant_vcm plant_dcm []

-- the records of C2, C3 and C4 as carriers 2 to 5, for channels 2 to 5 of map 0
abbrev pub border_state : State
border_state = record { tables = live5.tables; settings = record { map = 0; language = english } }

abbrev pub border_store : List ℕ
border_store = store_of borders_cds borders_mms borders_vcm borders_dcm []

-- two sections of carriers, version 6: carrier 2 at 54,000 kHz in section 0; carrier 2 at 57,000 and carrier 3 at 60,000 in section 1; for
-- channels 2 and 3 of map 0
abbrev pub low_cds : List ℕ
low_cds = hex "C2 30 13 00 02 01 01 01 00 00 15 18 00 93 03 E6 00 01 01 B7 C6 AD"

abbrev pub high_cds : List ℕ
high_cds = hex "C2 30 19 00 02 02 01 01 00 00 16 44 00 01 00 00 17 70 00 93 03 E6 01 01 DF AE 8F C0"

abbrev pub two_state : State
two_state = with border_state Cds (holding (live 1 6 1) none_gathered 0)

abbrev pub two_store : (section0 section1 : List ℕ) → List ℕ
two_store section0 section1 =
    store_of (padded 1024 section0 ++ section1)
    (hex "C2 30 14 00 01 01 02 2F 08 00 4D 29 AD 00 93 03 E5 00 00 CE 5B B1 EE")
    (hex "C4 30 26 00 00 00 00 00 00 00 00 00 00 02 00 02 00 12 34 02 00 03 01 00 03 00 12 34 03 00 03 01 93 03 E5 00 00 D0 9E 3A 5F")
    (hex "C4 30 11 00 01 00 00 00 02 01 82 93 03 E5 00 00 56 49 DA C9") []

pub record LiveBoxes : Type 0 where
  -- ---- through `tune` of a live box: a plant with another value in every field
  pub tunes_plant : map (tune live5 plant_store) (0x121 ∷ 0x122 ∷ 0x123 ∷ 0x124 ∷ 0x125 ∷ 0x126 ∷ [])
      ≡ wrong 17
      ∷ wrong 17
      ∷ right (Tuned.Digital 1 1 63000 0x0102 (record { system = 4; inner = 11; split = 1; format = 24; symbols = 0x1234567 }))
      ∷ right (Tuned.Application 0 1 0x0506)
      ∷ right (Tuned.Analogue 0 0 66000 4 1)
      ∷ wrong 17
      ∷ []
  -- C2, C3 and C4
  pub tunes_borders :
      map (tune border_state border_store) (2 ∷ 3 ∷ 4 ∷ 5 ∷ [])
      ≡ right (Tuned.Digital 0 0 54000 3 c12) ∷ wrong 20 ∷ right (Tuned.Digital 0 0 1002000 3 c12) ∷ wrong 20 ∷ []
  -- the lowest section first, by its number; a record of a later section is found too, and each counts from its own first index
  pub tunes_lowest : map (tune two_state (two_store low_cds high_cds)) (2 ∷ 3 ∷ []) ≡ right (Tuned.Digital 0 0 54000 3 c12) ∷ right (Tuned.Digital 0 0 60000 3 c12) ∷ []
  -- ---- 1, 2, 14, 15, 16, in their order
  pub order_one : tune (with live5 Dcm (holding none_live none_gathered 2)) (take 40959 plant_store) 4096 ≡ wrong 1
  pub order_two : tune (with live5 Dcm (holding none_live none_gathered 2)) plant_store 4096 ≡ wrong 2
  pub order_fourteen : map (tune (with live5 Dcm fresh_holding) empty_store) (4095 ∷ 4096 ∷ []) ≡ wrong 15 ∷ wrong 14 ∷ []
  -- 15: each of the four tables; before 16
  pub fifteen :
      map (λ t. tune (with live5 t fresh_holding) empty_store 3) (Cds ∷ Mms ∷ Vcm ∷ Dcm ∷ [])
      ≡ wrong 15 ∷ wrong 15 ∷ wrong 15 ∷ wrong 15 ∷ []
  -- 16: a place of each table that no longer reads right; the other half doesn't count; before 17
  pub sixteen :
      map (λ t. tune (with live5 t (holding (live 1 5 0) none_gathered 1)) plant_store 0x121) (Cds ∷ Mms ∷ Vcm ∷ Dcm ∷ [])
      ≡ wrong 16 ∷ wrong 16 ∷ wrong 16 ∷ wrong 16 ∷ []
  -- every live place is read, the first and the last
  pub sixteen_first : tune two_state (two_store high_cds high_cds) 2 ≡ wrong 16
  pub sixteen_second : tune two_state (two_store low_cds low_cds) 2 ≡ wrong 16

pub live-boxes : LiveBoxes
unfolding computed
live-boxes =
    record {
      tunes_plant = refl;
      tunes_borders = refl;
      tunes_lowest = refl;
      order_one = refl;
      order_two = refl;
      order_fourteen = refl;
      fifteen = refl;
      sixteen = refl;
      sixteen_first = refl;
      sixteen_second = refl;
    }
