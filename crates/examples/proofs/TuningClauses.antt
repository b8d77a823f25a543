-- Document 01, "From number to tuner", and refusals 16 to 21: every clause on both sides of its border, computed on plants of a few records. (Through `tune` of
-- a live box: LiveBoxes.antt.)
use Prim.Native.Nat.{ℕ, ◌*◌}
use mathlib.Core.Path.{◌≡◌, refl}
use mathlib.Core.List.{List, [], ◌∷◌, ◌++◌, map}
use mathlib.Core.Bool.{not}
use mathlib.Core.Option.{none, some}
use lib.Dec.{eqb}
use Rattle.rules.specs.Layout.{Numbered}
use Rattle.rules.specs.Tables.{carriers_of, channel_of, range_of}
use Rattle.rules.specs.Holding.{none_gathered, with, not_ours}
use Rattle.rules.specs.Search.{first, sections}
use Rattle.rules.specs.Tuning.{Plant, is_section, every, covers, in_reach, defined, look_up}
use Rattle.rules.specs.declared.Table.{Table}
use Rattle.rules.specs.declared.Table.TheVariants.{Cds, Mms, Vcm, Dcm}
use Rattle.rules.specs.declared.Carriers.{Carriers}
use Rattle.rules.specs.declared.Mode.{Mode}
use Rattle.rules.specs.declared.Channel.{Channel}
use Rattle.rules.specs.declared.Range.{Range}
use Rattle.rules.specs.declared.State.{State}
use Rattle.rules.specs.declared.Tuned.{Tuned}
use Rattle.rules.proofs.Hex.{hex}
use Rattle.examples.proofs.Sweeps.{swept, answered, counting, as_number}
use Rattle.rules.proofs.Computed.{computed}
use Rattle.examples.proofs.HoldingClauses.{live, holding, all_tables, revised, eng}
use Rattle.rules.specs.Refusals.{wrong, right}

-- version 5 with last 0 live in half 0, of each table
abbrev pub live5 : State
live5 = all_tables (holding (live 1 5 0) none_gathered 0)

-- ---- plants by their records; the mode of C12 has index 1

abbrev pub c12 : Mode
c12 = record { system = 2; inner = 15; split = 0; format = 8; symbols = 5056941 }

abbrev pub carriers_at : (index : ℕ) → List ℕ → List (Numbered Carriers)
carriers_at index r = record { index = index; what = carriers_of r } ∷ []

abbrev pub mode_at : (index : ℕ) → List (Numbered Mode)
mode_at index = record { index = index; what = c12 } ∷ []

abbrev pub channel_is : List ℕ → List (Numbered Channel)
channel_is r = record { index = 0; what = channel_of r } ∷ []

abbrev pub range_at : (first : ℕ) → List ℕ → List (Numbered Range)
range_at first r = record { index = first; what = range_of r } ∷ []

-- carriers 3 to 5 at 57,000, 63,000 and 69,000 kHz; channels 7 to 9 defined
abbrev pub small : List (Numbered Channel) → Plant
small channels =
    record {
      carriers = carriers_at 3 (hex "03 80 30 81 C8");
      modes = mode_at 1;
      channels = channels;
      ranges = range_at 7 (hex "83");
      names = [];
    }

-- channel 8, digital, with these references
abbrev pub eight : (carrier mode : ℕ) → List (Numbered Channel)
eight carrier mode = channel_is (hex "00 08 00 12 34" ++ (carrier ∷ hex "00 03" ++ (mode ∷ [])))

-- channel 8, analogue, with this carrier
abbrev pub eight_analogue : (carrier : ℕ) → List (Numbered Channel)
eight_analogue carrier = channel_is (hex "00 08 10 12 34" ++ (carrier ∷ hex "02 00 00"))

-- is a section of that table, map and revision the section n of the table that is live? Of the MMS the live last number is 2
abbrev pub fits : Table → (n : ℕ) → (table : Table) → (map version number last : ℕ) → ℕ
fits t n table map version number last =
    let s = with live5 Mms (holding (live 1 5 2) none_gathered 0) in
    as_number (is_section s t n table (not_ours s table map eng) (revised version number last))

pub record TuningClauses : Type 0 where
  -- ---- refusal 16, unless each live place reads right
  -- as that table, map, version, number and last: each of the five, and the map of VCM and DCM alone
  pub sixteen_table : map (λ table. fits Mms 0 table 0x0102 5 0 2) (Cds ∷ Mms ∷ Vcm ∷ Dcm ∷ []) ≡ 0 ∷ 1 ∷ 0 ∷ 0 ∷ []
  pub sixteen_map : fits Mms 0 Mms 0x0103 5 0 2 ∷ map (λ t. fits t 0 t 0x0103 5 0 0) (Cds ∷ Vcm ∷ Dcm ∷ []) ≡ 1 ∷ 1 ∷ 0 ∷ 0 ∷ []
  pub sixteen_version : answered (λ version. fits Vcm 0 Vcm 0x0102 version 0 0) 1 32 ≡ 5 ∷ []
  pub sixteen_number : answered (λ number. fits Vcm 2 Vcm 0x0102 5 number 0) 1 32 ≡ 2 ∷ []
  pub sixteen_last : answered (λ last. fits Mms 0 Mms 0x0102 5 0 last) 1 32 ≡ 2 ∷ []
  -- every place from 0 to last, and none behind it
  pub sixteen_places : map (λ bad. as_number (every 3 (λ n. not (eqb n bad)))) (0 ∷ 1 ∷ 2 ∷ 3 ∷ []) ≡ 0 ∷ 0 ∷ 0 ∷ 1 ∷ []
  -- ---- the searches: the first match, and where a record begins and ends
  pub first_match : first (λ n. covers 3 2 n) (1 ∷ 2 ∷ 4 ∷ 3 ∷ []) ≡ some 4
  pub no_match : first (λ n. covers 3 2 n) (1 ∷ 2 ∷ 5 ∷ []) ≡ none
  pub in_order : sections (λ n. n ∷ n * 10 ∷ []) 3 2 ≡ 2 ∷ 20 ∷ 3 ∷ 30 ∷ 4 ∷ 40 ∷ []
  pub covered : answered (λ n. as_number (covers 3 2 n)) 1 16 ≡ 3 ∷ 4 ∷ []
  -- 17: the first range that covers the channel says so
  pub seventeen : map (λ n. as_number (defined (range_at 7 (hex "83") ++ range_at 8 (hex "04")) n)) (counting 6 7) ≡ 0 ∷ 1 ∷ 1 ∷ 1 ∷ 0 ∷ 0 ∷ 0 ∷ []
  pub seventeen_order :
      map (look_up (small (eight 3 1))) (6 ∷ 7 ∷ 8 ∷ 9 ∷ 10 ∷ [])
      ≡ wrong 17 ∷ wrong 18 ∷ right (Tuned.Digital 0 0 57000 3 c12) ∷ wrong 18 ∷ wrong 17 ∷ []
  -- 19: reference 0, also where a record has index 0, and no carrier; each carrier of a record
  pub nineteen :
      map (λ carrier. look_up (small (eight_analogue carrier)) 8) (0 ∷ 2 ∷ 3 ∷ 4 ∷ 5 ∷ 6 ∷ [])
      ≡ wrong 19
      ∷ wrong 19
      ∷ right (Tuned.Analogue 0 0 57000 2 0)
      ∷ right (Tuned.Analogue 0 0 63000 2 0)
      ∷ right (Tuned.Analogue 0 0 69000 2 0)
      ∷ wrong 19
      ∷ []
  pub nineteen_zero :
      look_up (record { carriers = carriers_at 0 (hex "03 80 30 81 C8"); modes = []; channels = eight_analogue 0; ranges = range_at 7 (hex "83"); names = [] }) 8
      ≡ wrong 19
  -- reference 1 is the lowest that there is
  pub nineteen_one :
      look_up (record { carriers = carriers_at 1 (hex "01 80 30 81 C8"); modes = []; channels = eight_analogue 1; ranges = range_at 7 (hex "83"); names = [] }) 8
      ≡ right (Tuned.Analogue 0 0 57000 2 0)
  pub nineteen_first : look_up (small (eight 0 0)) 8 ≡ wrong 19
  -- 20: both ends, by one kHz
  pub twenty : map (λ khz. as_number (in_reach khz)) (53999 ∷ 54000 ∷ 54001 ∷ 1001999 ∷ 1002000 ∷ 1002001 ∷ []) ≡ 0 ∷ 1 ∷ 1 ∷ 1 ∷ 1 ∷ 0 ∷ []
  -- 21: digital alone, reference 0, also where a record has index 0, and no record
  pub twenty_one : map (λ mode. look_up (small (eight 3 mode)) 8) (0 ∷ 1 ∷ 2 ∷ []) ≡ wrong 21 ∷ right (Tuned.Digital 0 0 57000 3 c12) ∷ wrong 21 ∷ []
  pub twenty_one_zero : map
      (λ mode. look_up (record { carriers = (small []).carriers; modes = mode_at 0; channels = eight 3 mode; ranges = (small []).ranges; names = [] }) 8)
      (0 ∷ 1 ∷ [])
      ≡ wrong 21 ∷ wrong 21 ∷ []
  pub twenty_one_lower :
      look_up (record { carriers = (small []).carriers; modes = mode_at 2; channels = eight 3 1; ranges = (small []).ranges; names = [] }) 8
      ≡ wrong 21
  -- an application channel needs no carrier; path of all three kinds, and hidden, which is type 1 alone
  pub kinds :
      map (λ flags. look_up (small (channel_is (hex "00 08" ++ (flags ∷ hex "12 34 03 00 00 01")))) 8)
      (hex "00 01 02 20 21 10 11 30 80 81 A0 90")
      ≡ right (Tuned.Digital 0 0 57000 0 c12)
      ∷ right (Tuned.Digital 1 0 57000 0 c12)
      ∷ right (Tuned.Digital 0 0 57000 0 c12)
      ∷ right (Tuned.Digital 0 1 57000 0 c12)
      ∷ right (Tuned.Digital 1 1 57000 0 c12)
      ∷ right (Tuned.Analogue 0 0 57000 0 0)
      ∷ right (Tuned.Analogue 1 0 57000 0 0)
      ∷ right (Tuned.Analogue 0 1 57000 0 0)
      ∷ right (Tuned.Application 0 0 0x1234)
      ∷ right (Tuned.Application 1 0 0x1234)
      ∷ right (Tuned.Application 0 1 0x1234)
      ∷ right (Tuned.Application 0 0 0x1234)
      ∷ []

pub tuning-clauses : TuningClauses
unfolding computed swept
tuning-clauses =
    record {
      sixteen_table = refl;
      sixteen_map = refl;
      sixteen_version = refl;
      sixteen_number = refl;
      sixteen_last = refl;
      sixteen_places = refl;
      first_match = refl;
      no_match = refl;
      in_order = refl;
      covered = refl;
      seventeen = refl;
      seventeen_order = refl;
      nineteen = refl;
      nineteen_zero = refl;
      nineteen_one = refl;
      nineteen_first = refl;
      twenty = refl;
      twenty_one = refl;
      twenty_one_zero = refl;
      twenty_one_lower = refl;
      kinds = refl;
    }
