-- Document 01, "Holding and going live", and refusals 1, 2, 12 and 13: every clause on both sides of its border, computed.
use Prim.Native.Nat.{ℕ, ◌*◌}
use native.Mathlib.Omega.{arith}
use mathlib.Core.Path.{◌≡◌, refl}
use mathlib.Core.Logic.{inl, inr}
use mathlib.Core.List.{List, [], ◌∷◌, ◌++◌, map}
use mathlib.Core.Option.{none, some}
use lib.ListN.{length, replicate}
use Rattle.rules.specs.Section.{Content, right, wrong}
use Rattle.rules.specs.Holding.{place_of, store_size, section_at, put, listed, holding_of, with, live_at, gathered_at, none_live, none_gathered, fresh_holding}
use Rattle.rules.specs.Holding.{fresh, holds, all_of, live_formed, gathered_formed, same_version, holding_formed, step_of, offered_as, offered, touches}
use Rattle.rules.specs.Holding.{takes_in, store_after, answer_to, box_after, answers, run, same_language, SameLanguage, OtherMapped}
use Rattle.rules.specs.Lineup.{english}
use Rattle.rules.specs.declared.Table.{Table}
use Rattle.rules.specs.declared.Table.TheVariants.{Cds, Mms, Vcm, Dcm, Ntt}
use Rattle.rules.specs.declared.LiveVersion.{LiveVersion}
use Rattle.rules.specs.declared.GatheredVersion.{GatheredVersion}
use Rattle.rules.specs.declared.Holding.{Holding}
use Rattle.rules.specs.declared.Revision.{Revision}
use Rattle.rules.specs.declared.Language.{Language}
use Rattle.rules.specs.declared.State.{State}
use Rattle.rules.specs.declared.Answer.TheVariants.{OtherMap, Repeat, Stored, Live}
use Rattle.rules.proofs.Hex.{hex}
use Rattle.rules.proofs.Truths.{unlike}
use Rattle.rules.proofs.Examples.{ranges}
use Rattle.examples.proofs.Sweeps.{swept, answered, sweep, counting, as_number}
use Rattle.rules.proofs.Computed.{computed}

-- ---- states, by their fields

abbrev pub live : (present version last : ℕ) → LiveVersion
live present version last = record { present = present; version = version; last = last }

abbrev pub gathered : (present version last held : ℕ) → GatheredVersion
gathered present version last held = record { present = present; version = version; last = last; held = held }

abbrev pub holding : LiveVersion → GatheredVersion → (half : ℕ) → Holding
holding l g half = record { live = l; gathered = g; half = half }

abbrev pub state : (cds mms vcm dcm ntt : Holding) → State
state cds mms vcm dcm ntt =
    record {
      tables = record { cds = cds; mms = mms; vcm = vcm; dcm = dcm; ntt = ntt };
      settings = record { map = 0x0102; language = english };
    }

-- the same of each table
abbrev pub all_tables : Holding → State
all_tables h = state h h h h h

abbrev pub revised : (version number last : ℕ) → Revision
revised version number last = record { version = version; number = number; last = last }

-- version 6, 0 to 1, is live in half 0; version 5, 0 to 3, is being gathered, and 1 and 2 are held
abbrev pub both : Holding
both = holding (live 1 6 1) (gathered 1 5 3 0x06) 0

-- holdings that differ, one for each table
abbrev pub first : Holding
first = holding (live 1 1 0) none_gathered 0

abbrev pub second : Holding
second = holding (live 1 2 1) (gathered 1 3 2 0x01) 1

abbrev pub third : Holding
third = holding none_live (gathered 1 4 3 0x05) 1

abbrev pub fourth : Holding
fourth = holding none_live none_gathered 0

abbrev pub fifth : Holding
fifth = holding (live 1 9 2) (gathered 1 8 1 0x02) 1

abbrev pub mixed : State
mixed = state first second third fourth fifth

-- ---- the tests of refusal 2, as numbers

abbrev pub formed_live : LiveVersion → ℕ
formed_live l = as_number (live_formed 4 l)

abbrev pub formed_gathered : GatheredVersion → ℕ
formed_gathered g = as_number (gathered_formed 4 g)

abbrev pub formed : Holding → ℕ
formed h = as_number (holding_formed 4 h)

-- what a table's eight places begin at, half 0 and then half 1
abbrev pub places_of : Table → List ℕ
places_of t =
    place_of 4 t 0 0 ∷ place_of 4 t 0 1 ∷ place_of 4 t 0 2 ∷ place_of 4 t 0 3
    ∷ place_of 4 t 1 0 ∷ place_of 4 t 1 1 ∷ place_of 4 t 1 2 ∷ place_of 4 t 1 3 ∷ []

-- a section that reads right, for those who look at its table, map, language and revision alone; and one in English
abbrev pub spoken : Table → (map : ℕ) → Language → Revision → Content
spoken t map language r =
    record {
      table = t;
      structure =
          record {
            front = record { map = map; language = language; first = 1; count = 0; included = 0; splice = 0; time = 0 };
            lists = (ranges map 1 []).lists;
          };
      closing = [];
      revision = r;
    }

abbrev pub speech : (first second third : ℕ) → Language
speech first second third = record { first = first; second = second; third = third }

abbrev pub eng : Language
eng = speech 0x65 0x6E 0x67

abbrev pub said : Table → (map : ℕ) → Revision → Content
said t map r = spoken t map eng r

-- a CDS section, 2 of 0 to 3 of version 5; a VCM with splice 1 and the latest activation time, 0 of 0 of version 5, for map 0x0102
abbrev pub carriers_two : List ℕ
carriers_two = hex "C2 30 0D 00 01 00 01 93 03 E5 02 03 09 6E 4B F4"

abbrev pub channels_late : List ℕ
channels_late = hex "C4 30 14 00 00 01 02 00 80 FF FF FF FF 00 93 03 E5 00 00 50 DB A8 9B"

-- names: none, in English, 0 and 1 of 0 to 1 of version 6, and the same in French; in English 0 of 0 of version 7
abbrev pub names_low : List ℕ
names_low = hex "C3 30 0F 00 65 6E 67 06 00 93 03 E6 00 01 3F 6E 62 A9"

abbrev pub names_high : List ℕ
names_high = hex "C3 30 0F 00 65 6E 67 06 00 93 03 E6 01 01 ED 77 A3 75"

abbrev pub french_low : List ℕ
french_low = hex "C3 30 0F 00 66 72 61 06 00 93 03 E6 00 01 34 5D DF 15"

abbrev pub french_high : List ℕ
french_high = hex "C3 30 0F 00 66 72 61 06 00 93 03 E6 01 01 E6 44 1E C9"

abbrev pub names_next : List ℕ
names_next = hex "C3 30 0F 00 65 6E 67 06 00 93 03 E7 00 00 3A 77 D3 99"

-- names in English, 0 of 0 of version 5
abbrev pub english_five : List ℕ
english_five = hex "C3 30 0F 00 65 6E 67 06 00 93 03 E5 00 00 39 C6 8A 97"

abbrev pub empty_store : List ℕ
empty_store = replicate 40960 0

pub record HoldingClauses : Type 0 where
  -- ---- the store: 40 places of 1,024 bytes, one behind the other; those of the names begin at 32,768, behind a store of before request 2026-01
  pub places : places_of Cds ++ places_of Mms ++ places_of Vcm ++ places_of Dcm ++ places_of Ntt ≡ sweep 40 (λ k. k * 1024)
  pub places_names : places_of Ntt ≡ 32768 ∷ 33792 ∷ 34816 ∷ 35840 ∷ 36864 ∷ 37888 ∷ 38912 ∷ 39936 ∷ []
  pub size : store_size 4 ≡ 40960
  -- the section in a place is its first 3 + L bytes, and never more than the place
  pub place_section : section_at (hex "C2 30 09 C2 30 02 AA BB CC") 3 ≡ hex "C2 30 02 AA BB"
  pub place_long :
      length (section_at (0xC2 ∷ 0x33 ∷ 0xFD ∷ replicate 2000 0) 0) ∷ length (section_at (0xC2 ∷ 0x33 ∷ 0xFE ∷ replicate 2000 0) 0) ∷ []
      ≡ 1024 ∷ 1024 ∷ []
  -- bytes put at the front of a place: what is in front of them and behind them stays
  pub puts : put (hex "00 01 02 03 04 05") 2 (hex "AA BB CC") ≡ hex "00 01 AA BB CC 05"
  -- ---- the state
  pub starts :
      fresh 258 english
      ≡ all_tables (holding (live 0 0 0) (gathered 0 0 0 0) 1)
  -- with the map number and the language that are given
  pub starts_settings : (fresh 7 (hex "64 65 75")).settings ≡ record { map = 7; language = hex "64 65 75" }
  pub of_tables : map (holding_of mixed) (Cds ∷ Mms ∷ Vcm ∷ Dcm ∷ Ntt ∷ []) ≡ first ∷ second ∷ third ∷ fourth ∷ fifth ∷ []
  pub with_table :
      map (λ t. with mixed t both) (Cds ∷ Mms ∷ Vcm ∷ Dcm ∷ Ntt ∷ [])
      ≡ state both second third fourth fifth
      ∷ state first both third fourth fifth
      ∷ state first second both fourth fifth
      ∷ state first second third both fifth
      ∷ state first second third fourth both
      ∷ []
  -- a list of tables has those that stand in it, at any place
  pub in_list : map (λ t. as_number (listed (Mms ∷ Vcm ∷ []) t)) (Cds ∷ Mms ∷ Vcm ∷ Dcm ∷ Ntt ∷ []) ≡ 0 ∷ 1 ∷ 1 ∷ 0 ∷ 0 ∷ []
  -- the live half is the one set; gathering uses the other, whether anything is live or not
  pub live_half : map (λ t. live_at mixed t 1) (Cds ∷ Mms ∷ Vcm ∷ Dcm ∷ Ntt ∷ []) ≡ 1 * 1024 ∷ 13 * 1024 ∷ 21 * 1024 ∷ 25 * 1024 ∷ 37 * 1024 ∷ []
  pub gathered_half : map (λ t. gathered_at mixed t 1) (Cds ∷ Mms ∷ Vcm ∷ Dcm ∷ Ntt ∷ []) ≡ 5 * 1024 ∷ 9 * 1024 ∷ 17 * 1024 ∷ 29 * 1024 ∷ 33 * 1024 ∷ []
  -- bit n is section n; all of 0 to last
  pub held_bits : map (λ n. as_number (holds 0x0A n)) (0 ∷ 1 ∷ 2 ∷ 3 ∷ 4 ∷ []) ≡ 0 ∷ 1 ∷ 0 ∷ 1 ∷ 0 ∷ []
  pub all_held : map all_of (0 ∷ 1 ∷ 2 ∷ 3 ∷ 7 ∷ []) ≡ 1 ∷ 3 ∷ 7 ∷ 15 ∷ 255 ∷ []
  -- ---- refusal 1, before 2: a store shorter than 40,960 bytes, also one of 32,768, which was enough before request 2026-01 (readings, T16). Where 1 and 2
  -- pass, no section at all is 3
  pub one :
      map (λ size. (offered (fresh 0 english) (replicate size 0) []).answer) (32768 ∷ 40959 ∷ 40960 ∷ 41000 ∷ [])
      ≡ wrong 1 ∷ wrong 1 ∷ wrong 3 ∷ wrong 3 ∷ []
  pub one_first : (offered (state first second third fourth (holding none_live none_gathered 2)) (replicate 40959 0) []).answer ≡ wrong 1
  -- ---- refusal 2, of what is live: version above 31, last above 3; present is 0 or 1; absent with a field not zero
  pub two_version : answered (λ n. formed_live (live 1 n 0)) 1 256 ≡ counting 0 32
  pub two_last : answered (λ n. formed_live (live 1 0 n)) 1 256 ≡ counting 0 4
  pub two_present : answered (λ n. formed_live (live n 0 0)) 1 256 ≡ 0 ∷ 1 ∷ []
  pub two_absent : (answered (λ n. formed_live (live 0 n 0)) 1 256 ≡ 0 ∷ []) × (answered (λ n. formed_live (live 0 0 n)) 1 256 ≡ 0 ∷ [])
  -- the same of what is gathered, and of its numbers
  pub two_gathered_version : answered (λ n. formed_gathered (gathered 1 n 1 1)) 1 256 ≡ counting 0 32
  pub two_gathered_last : answered (λ n. formed_gathered (gathered 1 0 n 1)) 1 256 ≡ 1 ∷ 2 ∷ 3 ∷ []
  pub two_gathered_present :
      answered (λ n. formed_gathered (gathered n 0 0 0)) 1 256 ∷ answered (λ n. formed_gathered (gathered n 0 1 1)) 1 256 ∷ []
      ≡ (0 ∷ []) ∷ (1 ∷ []) ∷ []
  pub two_gathered_absent :
      (answered (λ n. formed_gathered (gathered 0 n 0 0)) 1 256 ≡ 0 ∷ [])
      × (answered (λ n. formed_gathered (gathered 0 0 n 0)) 1 256 ≡ 0 ∷ [])
      × (answered (λ n. formed_gathered (gathered 0 0 0 n)) 1 256 ≡ 0 ∷ [])
  -- gathered numbers empty, complete or beyond last, which is any bit above it
  pub two_held :
      map (λ last. answered (λ n. formed_gathered (gathered 1 5 last n)) 1 256) (0 ∷ 1 ∷ 2 ∷ 3 ∷ [])
      ≡ [] ∷ counting 1 2 ∷ counting 1 6 ∷ counting 1 14 ∷ []
  -- half above 1, with anything live or not
  pub two_half :
      (answered (λ n. formed (holding none_live none_gathered n)) 1 256 ≡ 0 ∷ 1 ∷ [])
      × (answered (λ n. formed (holding (live 1 6 1) (gathered 1 5 3 6) n)) 1 256 ≡ 0 ∷ 1 ∷ [])
  -- live and gathered version equal, whatever their last; where one of them is absent it has no version
  pub two_same : answered (λ n. formed (holding (live 1 6 1) (gathered 1 n 3 6) 0)) 0 32 ≡ 6 ∷ []
  pub two_same_present : as_number (same_version (holding (live 1 5 0) (gathered 2 5 1 1) 0)) ≡ 0
  pub two_same_absent : formed (holding none_live (gathered 1 0 1 1) 0) ∷ formed (holding (live 1 0 0) none_gathered 0) ∷ [] ≡ 1 ∷ 1 ∷ []
  -- what is live and what is gathered are both judged
  pub two_both : formed both ∷ formed (holding (live 1 6 4) (gathered 1 5 3 6) 0) ∷ formed (holding (live 1 6 1) (gathered 1 5 4 6) 0) ∷ [] ≡ 1 ∷ 0 ∷ 0 ∷ []
  -- each table is judged, and 2 comes before what the section is
  pub two_tables :
      map (λ s. (offered s empty_store []).answer)
      (mixed
      ∷ with mixed Cds (holding none_live none_gathered 2)
      ∷ with mixed Mms (holding none_live none_gathered 2)
      ∷ with mixed Vcm (holding none_live none_gathered 2)
      ∷ with mixed Dcm (holding none_live none_gathered 2)
      ∷ with mixed Ntt (holding none_live none_gathered 2)
      ∷ [])
      ≡ wrong 3 ∷ wrong 2 ∷ wrong 2 ∷ wrong 2 ∷ wrong 2 ∷ wrong 2 ∷ []
  -- ---- step 1: 0xC4 with another map number, and 0xC2 and 0xC3 have none; the state stays
  pub other_map :
      map (λ t. (offered_as mixed (right (said t 0x0103 (revised 7 0 1)))).answer) (Cds ∷ Mms ∷ Vcm ∷ Dcm ∷ Ntt ∷ [])
      ≡ right (Stored 1) ∷ right (Stored 1) ∷ right OtherMap ∷ right OtherMap ∷ right (Stored 1) ∷ []
  pub other_map_state : map (λ t. (offered_as mixed (right (said t 0x0103 (revised 7 0 1)))).state) (Vcm ∷ Dcm ∷ []) ≡ mixed ∷ mixed ∷ []
  pub other_map_before : (offered_as mixed (right (said Vcm 0x0002 (revised 7 0 4)))).answer ≡ right OtherMap
  -- and in words
  pub other_mapped : OtherMapped mixed (said Vcm 0x0103 (revised 7 0 1)) × OtherMapped mixed (said Dcm 0x0002 (revised 7 0 1))
  -- request 2026-01, "another language answers other map": 0xC3 alone has one; the state stays, whatever its last
  pub other_language :
      map (λ t. (offered_as mixed (right (spoken t 0x0102 (speech 0x66 0x72 0x61) (revised 7 0 1)))).answer) (Cds ∷ Mms ∷ Vcm ∷ Dcm ∷ Ntt ∷ [])
      ≡ right (Stored 1) ∷ right (Stored 1) ∷ right (Stored 1) ∷ right (Stored 1) ∷ right OtherMap ∷ []
  pub other_language_state : (offered_as mixed (right (spoken Ntt 0x0102 (speech 0x66 0x72 0x61) (revised 7 0 1)))).state ≡ mixed
  pub other_language_before : (offered_as mixed (right (spoken Ntt 0x0102 (speech 0x66 0x72 0x61) (revised 7 0 4)))).answer ≡ right OtherMap
  -- bytes as they are (readings, Q9): "ENG" is another, and so is FF FF FF, the wild card of 003; so is 00 00 00, and what differs in one byte
  pub languages :
      map (λ l. (offered_as mixed (right (spoken Ntt 0x0102 l (revised 7 0 1)))).answer)
      (eng
      ∷ speech 0x45 0x4E 0x47
      ∷ speech 0xFF 0xFF 0xFF
      ∷ speech 0x00 0x00 0x00
      ∷ speech 0x66 0x6E 0x67
      ∷ speech 0x65 0x6F 0x67
      ∷ speech 0x65 0x6E 0x68
      ∷ [])
      ≡ right (Stored 1) ∷ right OtherMap ∷ right OtherMap ∷ right OtherMap ∷ right OtherMap ∷ right OtherMap ∷ right OtherMap ∷ []
  pub language_bytes :
      answered (λ b. as_number (same_language (speech b 0x6E 0x67) english)) 1 256
      ∷ answered (λ b. as_number (same_language (speech 0x65 b 0x67) english)) 1 256
      ∷ answered (λ b. as_number (same_language (speech 0x65 0x6E b) english)) 1 256
      ∷ []
      ≡ (0x65 ∷ []) ∷ (0x6E ∷ []) ∷ (0x67 ∷ []) ∷ []
  -- it is compared with the one given at the start
  pub language_given :
      map (λ l. (offered_as (fresh 0 (hex "66 72 61")) (right (spoken Ntt 0 l (revised 7 0 1)))).answer) (eng ∷ speech 0x66 0x72 0x61 ∷ [])
      ≡ right OtherMap ∷ right (Stored 1) ∷ []
  -- a box may be started with any three bytes (N20), and takes these alone: FF FF FF is no wild card there either (Q9), and 00 00 00 is a language like others
  pub language_any :
      map (λ ours. map (λ l. (offered (fresh 0 ours) empty_store l).answer) (english_five
      ∷ hex "C3 30 0F 00 FF FF FF 06 00 93 03 E5 00 00 50 4A 4A A0" ∷ hex "C3 30 0F 00 00 00 00 06 00 93 03 E5 00 00 CD F1 88 D1" ∷ []))
      (hex "FF FF FF" ∷ hex "00 00 00" ∷ [])
      ≡ (right OtherMap ∷ right (Live 5) ∷ right OtherMap ∷ []) ∷ (right OtherMap ∷ right OtherMap ∷ right (Live 5) ∷ []) ∷ []
  -- and in words
  pub other_spoken :
      OtherMapped mixed (spoken Ntt 0x0102 (speech 0x66 0x6E 0x67) (revised 7 0 1))
      × OtherMapped mixed (spoken Ntt 0x0102 (speech 0x65 0x6F 0x67) (revised 7 0 1))
      × OtherMapped mixed (spoken Ntt 0x0102 (speech 0x65 0x6E 0x68) (revised 7 0 1))
  pub same_spoken : SameLanguage eng english
  -- of our map its table's holding moves, and no other
  pub our_map : map (λ t. offered_as mixed (right (said t 0x0102 (revised 7 0 0)))) (Cds ∷ Mms ∷ Vcm ∷ Dcm ∷ Ntt ∷ [])
      ≡ record { answer = right (Live 7); state = with mixed Cds (holding (live 1 7 0) none_gathered 1) }
      ∷ record { answer = right (Live 7); state = with mixed Mms (holding (live 1 7 0) none_gathered 0) }
      ∷ record { answer = right (Live 7); state = with mixed Vcm (holding (live 1 7 0) none_gathered 0) }
      ∷ record { answer = right (Live 7); state = with mixed Dcm (holding (live 1 7 0) none_gathered 1) }
      ∷ record { answer = right (Live 7); state = with mixed Ntt (holding (live 1 7 0) none_gathered 0) }
      ∷ []
  -- each table has its own versions: version 2 is live in the MMS alone
  pub own_versions :
      map (λ t. (offered_as mixed (right (said t 0x0102 (revised 2 0 1)))).answer) (Cds ∷ Mms ∷ Vcm ∷ Dcm ∷ Ntt ∷ [])
      ≡ right (Stored 1) ∷ right Repeat ∷ right (Stored 1) ∷ right (Stored 1) ∷ right (Stored 1) ∷ []
  pub refused_state : offered_as mixed (wrong 9) ≡ record { answer = wrong 9; state = mixed }
  -- ---- step 2: last above 3, whatever is live or gathered; step 3 comes behind it
  pub twelve : map (λ last. (step_of 4 both (revised 6 0 last)).answer) (3 ∷ 4 ∷ 255 ∷ []) ≡ wrong 13 ∷ wrong 12 ∷ wrong 12 ∷ []
  pub twelve_new : map (λ last. (step_of 4 both (revised 7 0 last)).answer) (3 ∷ 4 ∷ []) ≡ right (Stored 3) ∷ wrong 12 ∷ []
  pub twelve_holding : (step_of 4 both (revised 7 0 4)).holding ≡ both
  -- ---- step 3: the live version with another last, and the gathered one with another
  pub thirteen : map (λ last. (step_of 4 both (revised 6 0 last)).answer) (0 ∷ 1 ∷ 2 ∷ 3 ∷ []) ≡ wrong 13 ∷ right Repeat ∷ wrong 13 ∷ wrong 13 ∷ []
  pub thirteen_gathered : map (λ last. (step_of 4 both (revised 5 0 last)).answer) (0 ∷ 1 ∷ 2 ∷ 3 ∷ []) ≡ wrong 13 ∷ wrong 13 ∷ wrong 13 ∷ right (Stored 1) ∷ []
  pub thirteen_holding : map (λ v. (step_of 4 both (revised v 0 2)).holding) (5 ∷ 6 ∷ []) ≡ both ∷ both ∷ []
  pub thirteen_other :
      map (λ last. (step_of 4 (holding (live 1 6 3) (gathered 1 5 1 0x01) 0) (revised 6 0 last)).answer) (1 ∷ 2 ∷ 3 ∷ [])
      ≡ wrong 13 ∷ wrong 13 ∷ right Repeat ∷ []
  pub thirteen_above :
      map (λ last. (step_of 4 (holding (live 1 6 3) (gathered 1 5 1 0x01) 0) (revised 5 1 last)).answer) (1 ∷ 2 ∷ 3 ∷ [])
      ≡ right (Live 5) ∷ wrong 13 ∷ wrong 13 ∷ []
  -- present is 1 or it is none: 2 is no version either (and refusal 2)
  pub present_two :
      map (λ v. (step_of 4 (holding (live 2 6 1) (gathered 2 5 1 0x02) 0) (revised v 0 1)).answer) (5 ∷ 6 ∷ [])
      ≡ right (Stored 1) ∷ right (Stored 1) ∷ []
  -- nothing live and nothing gathered is of no version, not of version 0
  pub none_zero : step_of 4 fresh_holding (revised 0 0 1) ≡ record { answer = right (Stored 1); holding = holding none_live (gathered 1 0 1 1) 1 }
  pub none_zero_live : step_of 4 fresh_holding (revised 0 0 0) ≡ record { answer = right (Live 0); holding = holding (live 1 0 0) none_gathered 0 }
  -- ---- step 4: the live version, or a number that is held already; what is gathered stays
  pub repeats : map (λ n. (step_of 4 both (revised 5 n 3)).answer) (0 ∷ 1 ∷ 2 ∷ 3 ∷ []) ≡ right (Stored 1) ∷ right Repeat ∷ right Repeat ∷ right (Stored 1) ∷ []
  pub repeats_live :
      map (λ n. step_of 4 both (revised 6 n 1)) (0 ∷ 1 ∷ [])
      ≡ record { answer = right Repeat; holding = both } ∷ record { answer = right Repeat; holding = both } ∷ []
  pub repeats_holding : (step_of 4 both (revised 5 1 3)).holding ≡ both
  -- ---- step 5: n joins, or what was gathered is dropped; a version is another, whether it is bigger or smaller
  pub joins :
      map (λ n. (step_of 4 both (revised 5 n 3)).holding) (0 ∷ 3 ∷ [])
      ≡ holding (live 1 6 1) (gathered 1 5 3 0x07) 0 ∷ holding (live 1 6 1) (gathered 1 5 3 0x0E) 0 ∷ []
  pub begins : map (λ v. step_of 4 both (revised v 2 3)) (4 ∷ 31 ∷ [])
      ≡ record { answer = right (Stored 3); holding = holding (live 1 6 1) (gathered 1 4 3 0x04) 0 }
      ∷ record { answer = right (Stored 3); holding = holding (live 1 6 1) (gathered 1 31 3 0x04) 0 }
      ∷ []
  -- ---- step 6: all of 0 to last are held: live, gathering is empty, halves change roles; else how many are still missing
  pub lives :
      step_of 4 (holding (live 1 6 1) (gathered 1 5 3 0x07) 0) (revised 5 3 3)
      ≡ record { answer = right (Live 5); holding = holding (live 1 5 3) none_gathered 1 }
  pub lives_back :
      step_of 4 (holding (live 1 6 1) (gathered 1 5 1 0x02) 1) (revised 5 0 1)
      ≡ record { answer = right (Live 5); holding = holding (live 1 5 1) none_gathered 0 }
  pub missing : map (λ last. (step_of 4 both (revised 7 0 last)).answer) (0 ∷ 1 ∷ 2 ∷ 3 ∷ []) ≡ right (Live 7) ∷ right (Stored 1) ∷ right (Stored 2) ∷ right (Stored 3) ∷ []
  -- in a state that is not well formed, with a number beyond last held: these are not just all of 0 to last
  pub beyond : (step_of 4 (holding none_live (gathered 1 5 1 0x05) 1) (revised 5 1 1)).answer ≡ right (Stored 0)
  -- ---- the store after an offer
  pub takes : map (λ a. as_number (takes_in a)) (wrong 5 ∷ right OtherMap ∷ right Repeat ∷ right (Stored 1) ∷ right (Live 5) ∷ []) ≡ 0 ∷ 0 ∷ 0 ∷ 1 ∷ 1 ∷ []
  -- the section stands at the front of its place, section 2 of half 0, and every other byte is as it was
  pub stores : store_after (fresh 0 english) empty_store carriers_two ≡ replicate 2048 0 ++ carriers_two ++ replicate 38896 0
  -- a section of names at 32,768, behind the four tables, and these stay; one of another language is put nowhere
  pub stores_names : store_after (fresh 0 english) empty_store names_low ≡ replicate 32768 0 ++ names_low ++ replicate 8174 0
  pub stores_french : store_after (fresh 0 english) (hex "01 02 03") french_low ≡ hex "01 02 03"
  -- two languages in one run: ours is gathered and goes live, and its next version too; the other one is *other map* and changes nothing
  pub two_languages :
      answers (record { state = fresh 0 english; store = empty_store }) (names_low ∷ french_low ∷ french_high ∷ names_low ∷ names_high ∷ french_high ∷ names_next ∷ [])
      ≡ right (Stored 1) ∷ right OtherMap ∷ right OtherMap ∷ right Repeat ∷ right (Live 6) ∷ right OtherMap ∷ right (Live 7) ∷ []
  pub two_languages_state :
      (run (record { state = fresh 0 english; store = empty_store }) (names_low ∷ french_low ∷ french_high ∷ carriers_two ∷ names_high ∷ [])).state
      ≡ with (with (fresh 0 english) Cds (holding none_live (gathered 1 5 3 0x04) 1)) Ntt (holding (live 1 6 1) none_gathered 0)
  pub stores_refused : store_after (fresh 0 english) (hex "01 02 03") carriers_two ≡ hex "01 02 03"
  pub stores_answer : answer_to (record { state = fresh 0 english; store = empty_store }) carriers_two ≡ right (Stored 3)
  pub stores_state :
      (box_after (record { state = fresh 0 english; store = empty_store }) carriers_two).state
      ≡ with (fresh 0 english) Cds (holding none_live (gathered 1 5 3 0x04) 1)
  -- whose table a section touches: none's where it is for another map or in another language or does not read right
  pub touched :
      map (touches (fresh 0 english)) (carriers_two ∷ channels_late ∷ names_low ∷ french_low ∷ [] ∷ []) ≡ some Cds ∷ none ∷ some Ntt ∷ none ∷ none ∷ []
  -- whole sections of names, in English; in "ENG", FF FF FF and 00 00 00; in a language that differs in one byte
  pub touched_languages :
      map (touches (fresh 0 english))
      (hex "C3 30 0F 00 65 6E 67 06 00 93 03 E5 00 00 39 C6 8A 97"
      ∷ hex "C3 30 0F 00 45 4E 47 06 00 93 03 E5 00 00 08 39 38 9C"
      ∷ hex "C3 30 0F 00 FF FF FF 06 00 93 03 E5 00 00 50 4A 4A A0"
      ∷ hex "C3 30 0F 00 00 00 00 06 00 93 03 E5 00 00 CD F1 88 D1"
      ∷ hex "C3 30 0F 00 66 6E 67 06 00 93 03 E5 00 00 BC B6 77 89"
      ∷ hex "C3 30 0F 00 65 6F 67 06 00 93 03 E5 00 00 CB C6 20 F1"
      ∷ hex "C3 30 0F 00 65 6E 68 06 00 93 03 E5 00 00 6B EE 5C 68"
      ∷ [])
      ≡ some Ntt ∷ none ∷ none ∷ none ∷ none ∷ none ∷ none ∷ []
  pub touched_map : touches (fresh 0x0102 english) channels_late ≡ some Vcm
  -- "Splice and time are not acted on"
  pub at_once : (offered (fresh 0x0102 english) empty_store channels_late).answer ≡ right (Live 5)

pub holding-clauses : HoldingClauses
unfolding computed swept
holding-clauses =
    record {
      places = refl;
      places_names = refl;
      size = refl;
      place_section = refl;
      place_long = refl;
      puts = refl;
      starts = refl;
      starts_settings = refl;
      of_tables = refl;
      with_table = refl;
      in_list = refl;
      live_half = refl;
      gathered_half = refl;
      held_bits = refl;
      all_held = refl;
      one = refl;
      one_first = refl;
      two_version = refl;
      two_last = refl;
      two_present = refl;
      two_absent = (refl, refl);
      two_gathered_version = refl;
      two_gathered_last = refl;
      two_gathered_present = refl;
      two_gathered_absent = (refl, refl, refl);
      two_held = refl;
      two_half = (refl, refl);
      two_same = refl;
      two_same_present = refl;
      two_same_absent = refl;
      two_both = refl;
      two_tables = refl;
      other_map = refl;
      other_map_state = refl;
      other_map_before = refl;
      other_mapped = (inl (refl, λ e. omega (arith, e)), inl (refl, λ e. omega (arith, e)));
      other_language = refl;
      other_language_state = refl;
      other_language_before = refl;
      languages = refl;
      language_bytes = refl;
      language_given = refl;
      language_any = refl;
      other_spoken = (inr (refl, λ l. unlike refl l.0), inr (refl, λ l. unlike refl l.1), inr (refl, λ l. unlike refl l.2));
      same_spoken = (refl, refl, refl);
      our_map = refl;
      own_versions = refl;
      refused_state = refl;
      twelve = refl;
      twelve_new = refl;
      twelve_holding = refl;
      thirteen = refl;
      thirteen_gathered = refl;
      thirteen_holding = refl;
      thirteen_other = refl;
      thirteen_above = refl;
      present_two = refl;
      none_zero = refl;
      none_zero_live = refl;
      repeats = refl;
      repeats_live = refl;
      repeats_holding = refl;
      joins = refl;
      begins = refl;
      lives = refl;
      lives_back = refl;
      missing = refl;
      beyond = refl;
      takes = refl;
      stores = refl;
      stores_names = refl;
      stores_french = refl;
      two_languages = refl;
      two_languages_state = refl;
      stores_refused = refl;
      stores_answer = refl;
      stores_state = refl;
      touched = refl;
      touched_languages = refl;
      touched_map = refl;
      at_once = refl;
    }
