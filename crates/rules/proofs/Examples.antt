-- Document 01, "Examples": C1 to C13, as one collected fact about the rules. Each part is computed from the definitions, on
-- whole sections with their CRC. (The printed line-ups: crates/examples.)
use Prim.Native.Nat.{ℕ}
use mathlib.Core.Path.{◌≡◌, refl}
use mathlib.Core.Bool.{true, false}
use mathlib.Core.List.{List, [], ◌∷◌, ◌++◌, map}
use lib.ListN.{length}
use Rattle.rules.specs.Descriptors.{Descriptor}
use Rattle.rules.specs.Layout.{Numbered}
use Rattle.rules.specs.Tables.{carriers_of, carrier_khz}
use Rattle.rules.specs.Form.{no_language}
use Rattle.rules.specs.Section.{Structure, Content, right, read_section, check}
use Rattle.rules.specs.Holding.{answers}
use Rattle.rules.specs.Tuning.{carriers_in, modes_in, channels_in, ranges_in, records_in, Plant, defined, look_up}
use Rattle.rules.specs.Lineup.{fresh_box}
use Rattle.rules.specs.declared.Table.TheVariants.{Cds, Mms, Vcm, Dcm}
use Rattle.rules.specs.declared.Carriers.{Carriers}
use Rattle.rules.specs.declared.Mode.{Mode}
use Rattle.rules.specs.declared.Channel.{Channel}
use Rattle.rules.specs.declared.Signal.TheVariants.{Digital, Analogue}
use Rattle.rules.specs.declared.Range.{Range}
use Rattle.rules.specs.declared.Revision.{Revision}
use Rattle.rules.specs.declared.Answer.TheVariants.{Repeat, Stored, Live}
use Rattle.rules.specs.declared.Tuned.{Tuned}
use Rattle.rules.proofs.Hex.{hex}
use Rattle.rules.proofs.Computed.{computed}
use Rattle.rules.specs.Refusals.{wrong}

-- what a section of each table says, field by field: in front of the records, and these

abbrev pub carriers : (first : ℕ) → List (Numbered Carriers) → Structure
carriers first rs =
    record {
      front = record { map = 0; language = no_language; first = first; count = length rs; included = 0; splice = 0; time = 0 };
      lists = record { carriers = rs; modes = []; channels = []; ranges = []; names = [] };
    }

abbrev pub modes : (first : ℕ) → List (Numbered Mode) → Structure
modes first rs =
    record {
      front = record { map = 0; language = no_language; first = first; count = length rs; included = 0; splice = 0; time = 0 };
      lists = record { carriers = []; modes = rs; channels = []; ranges = []; names = [] };
    }

abbrev pub channels : (map included splice time : ℕ) → List (Numbered Channel) → Structure
channels map included splice time rs =
    record {
      front = record { map = map; language = no_language; first = 0; count = length rs; included = included; splice = splice; time = time };
      lists = record { carriers = []; modes = []; channels = rs; ranges = []; names = [] };
    }

abbrev pub ranges : (map first : ℕ) → List (Numbered Range) → Structure
ranges map first rs =
    record {
      front = record { map = map; language = no_language; first = first; count = length rs; included = 0; splice = 0; time = 0 };
      lists = record { carriers = []; modes = []; channels = []; ranges = rs; names = [] };
    }

-- the records that a section of each table says
abbrev pub said : (cds mms vcm dcm : List ℕ) → Plant
said cds mms vcm dcm =
    record {
      carriers = records_in carriers_in (read_section cds);
      modes = records_in modes_in (read_section mms);
      channels = records_in channels_in (read_section vcm);
      ranges = records_in ranges_in (read_section dcm);
      names = [];
    }

-- what a section with the record of C1 reads as
abbrev pub c1_content : List Descriptor → Revision → Content
c1_content closing revision =
    record {
      table = Cds;
      structure =
          carriers 1 (record { index = 1; what = record { count = 2; spacing = record { unit = 1; number = 48 }; first = record { unit = 1; number = 456 } } }
          ∷ []);
      closing = closing;
      revision = revision;
    }

-- the records of C2, C3 and C4 as carriers 2 to 5 of one section, for channels 2 to 5: a section of each table
abbrev pub borders_cds : List ℕ
borders_cds = hex "C2 30 25 00 02 04 01 01 00 00 15 18 00 01 00 00 15 17 00 01 00 00 9F 50 00 01 00 00 9F 51 00 93 03 E5 00 00 4A F4 C4 0A"

abbrev pub borders_mms : List ℕ
borders_mms = hex "C2 30 14 00 01 01 02 2F 08 00 4D 29 AD 00 93 03 E5 00 00 CE 5B B1 EE"

abbrev pub borders_vcm : List ℕ
borders_vcm =
    hex "C4 30 38 00 00 00 00 00 00 00 00 00 00 04 00 02 00 12 34 02 00 03 01 00 03 00 12 34 03 00 03 01 00 04 00 12 34 04 00 03 01"
    ++ hex "00 05 00 12 34 05 00 03 01 93 03 E5 00 00 A9 F1 EE 35"

abbrev pub borders_dcm : List ℕ
borders_dcm = hex "C4 30 11 00 01 00 00 00 02 01 84 93 03 E5 00 00 0C B9 F5 D9"

abbrev borders : Plant
borders = said borders_cds borders_mms borders_vcm borders_dcm

-- the ranges of C7
abbrev pub c7_ranges : List (Numbered Range)
c7_ranges =
    record { index = 2; what = record { defined = 1; count = 3 } }
    ∷ record { index = 5; what = record { defined = 0; count = 5 } }
    ∷ record { index = 10; what = record { defined = 1; count = 1 } }
    ∷ []

-- the mode of C12
abbrev pub c12_mode : Mode
c12_mode = record { system = 2; inner = 15; split = 0; format = 8; symbols = 5056941 }

pub record Examples : Type 0 where
  -- C1 `02 80 30 81 C8`: 57,000 and 63,000 kHz
  pub c1 :
      (read_section (hex "C2 30 13 00 01 01 01 02 80 30 81 C8 00 93 03 E5 00 00 74 9E FB E2")
      ≡ right (c1_content (record { tag = 0x93; body = hex "E5 00 00" } ∷ []) (record { version = 5; number = 0; last = 0 })))
      × (carrier_khz (carriers_of (hex "02 80 30 81 C8")) 0 ≡ 57000)
      × (carrier_khz (carriers_of (hex "02 80 30 81 C8")) 1 ≡ 63000)
  -- C2 `01 00 00 15 18`: 54,000
  pub c2 :
      (carrier_khz (carriers_of (hex "01 00 00 15 18")) 0 ≡ 54000)
      × (look_up borders 2 ≡ right (Tuned.Digital 0 0 54000 3 c12_mode))
  -- C3 `01 00 00 15 17`: 53,990, reads, tuning gives 20
  pub c3 :
      (carrier_khz (carriers_of (hex "01 00 00 15 17")) 0 ≡ 53990)
      × (check borders_cds ≡ 0)
      × (look_up borders 3 ≡ wrong 20)
  -- C4 `01 00 00 9F 50`: 1,002,000; `..51` in the last byte: 1,002,125, gives 20
  pub c4 :
      (carrier_khz (carriers_of (hex "01 00 00 9F 50")) 0 ≡ 1002000)
      × (look_up borders 4 ≡ right (Tuned.Digital 0 0 1002000 3 c12_mode))
      × (carrier_khz (carriers_of (hex "01 00 00 9F 51")) 0 ≡ 1002125)
      × (look_up borders 5 ≡ wrong 20)
  -- C5 `00 80 30 81 C8`: 10; `02 C0 30 81 C8`: 9
  pub c5 :
      (check (hex "C2 30 13 00 01 01 01 00 80 30 81 C8 00 93 03 E5 00 00 83 06 E9 89") ≡ 10)
      × (check (hex "C2 30 13 00 01 01 01 02 C0 30 81 C8 00 93 03 E5 00 00 C8 95 54 C2") ≡ 9)
  -- C6 `FF BF FF FF FF`: at first index 1 the last carrier is 524,256,125 kHz; at 2, refusal 10
  pub c6 :
      (check (hex "C2 30 13 00 01 01 01 FF BF FF FF FF 00 93 03 E5 00 00 47 F4 BE CA") ≡ 0)
      × ((carriers_of (hex "FF BF FF FF FF")).count ≡ 255)
      × (carrier_khz (carriers_of (hex "FF BF FF FF FF")) 254 ≡ 524256125)
      × (check (hex "C2 30 13 00 02 01 01 FF BF FF FF FF 00 93 03 E5 00 00 8F EC ED 89") ≡ 10)
  -- C7 DCM first 2, `83 05 81`: 2 to 4 defined, 5 to 9 not, 10 defined
  pub c7 :
      (read_section (hex "C4 30 13 00 01 00 00 00 02 03 83 05 81 93 03 E5 00 00 90 74 69 2E")
      ≡ right (record {
        table = Dcm;
        structure = ranges 0 2 c7_ranges;
        closing = record { tag = 0x93; body = hex "E5 00 00" } ∷ [];
        revision = record { version = 5; number = 0; last = 0 };
      }))
      × (map (defined c7_ranges) (2 ∷ 3 ∷ 4 ∷ 5 ∷ 6 ∷ 7 ∷ 8 ∷ 9 ∷ 10 ∷ []) ≡ true ∷ true ∷ true ∷ false ∷ false ∷ false ∷ false ∷ false ∷ true ∷ [])
  -- C8 first 4095: `81` good, `82` gives 10
  pub c8 :
      (check (hex "C4 30 11 00 01 00 00 0F FF 01 81 93 03 E5 00 00 F2 D1 C9 D8") ≡ 0)
      × (check (hex "C4 30 11 00 01 00 00 0F FF 01 82 93 03 E5 00 00 DF A9 DE 50") ≡ 10)
  -- C9 `00 03 00 12 34 02 00 03 01`: channel 3, source 0x1234, carrier 2, programme 3, mode 1
  pub c9 :
      read_section (hex "C4 30 1D 00 00 00 00 00 00 00 00 00 00 01 00 03 00 12 34 02 00 03 01 93 03 E5 00 00 43 E6 31 47")
      ≡ right (record {
        table = Vcm;
        structure =
            channels 0 0 0 0
            (record { index = 0; what = record { number = 3; application = 0; path = 0; kind = 0; source = 0x1234; carrier = 2; signal = Digital 3 1 } } ∷ []);
        closing = record { tag = 0x93; body = hex "E5 00 00" } ∷ [];
        revision = record { version = 5; number = 0; last = 0 };
      })
  -- C10 `00 08 10 12 35 02 80 00 00`: analogue, scrambled, standard 0
  pub c10 :
      read_section (hex "C4 30 1D 00 00 00 00 00 00 00 00 00 00 01 00 08 10 12 35 02 80 00 00 93 03 E5 00 00 69 81 46 AD")
      ≡ right (record {
        table = Vcm;
        structure =
            channels 0 0 0 0
            (record { index = 0; what = record { number = 8; application = 0; path = 0; kind = 0; source = 0x1235; carrier = 2; signal = Analogue 1 0 } } ∷ []);
        closing = record { tag = 0x93; body = hex "E5 00 00" } ∷ [];
        revision = record { version = 5; number = 0; last = 0 };
      })
  -- C11 `93 03 E5 00 01`, `93 05 E5 00 01 AA BB` and `93 03 05 00 01`: each version 5, 0 of 1. `93 03 E5 02 01`: 11
  pub c11 :
      (read_section (hex "C2 30 13 00 01 01 01 02 80 30 81 C8 00 93 03 E5 00 01 70 5F E6 55")
      ≡ right (c1_content (record { tag = 0x93; body = hex "E5 00 01" } ∷ []) (record { version = 5; number = 0; last = 1 })))
      × (read_section (hex "C2 30 15 00 01 01 01 02 80 30 81 C8 00 93 05 E5 00 01 AA BB 99 3A 5E C8")
      ≡ right (c1_content (record { tag = 0x93; body = hex "E5 00 01 AA BB" } ∷ []) (record { version = 5; number = 0; last = 1 })))
      × (read_section (hex "C2 30 13 00 01 01 01 02 80 30 81 C8 00 93 03 05 00 01 D1 37 14 F5")
      ≡ right (c1_content (record { tag = 0x93; body = hex "05 00 01" } ∷ []) (record { version = 5; number = 0; last = 1 })))
      × (check (hex "C2 30 13 00 01 01 01 02 80 30 81 C8 00 93 03 E5 02 01 D0 AD 78 5A") ≡ 11)
  -- C12 `2F 08 00 4D 29 AD`: system 2, inner 15, format 8, 5,056,941 symbols
  pub c12 :
      read_section (hex "C2 30 14 00 01 01 02 2F 08 00 4D 29 AD 00 93 03 E5 00 00 CE 5B B1 EE")
      ≡ right (record {
        table = Mms;
        structure = modes 1 (record { index = 1; what = c12_mode } ∷ []);
        closing = record { tag = 0x93; body = hex "E5 00 00" } ∷ [];
        revision = record { version = 5; number = 0; last = 0 };
      })
  -- C13 offers (v/n/last): 5/0/1 stored, 1 missing; again, repeat; 6/0/0 live; 5/1/1 stored, 1 missing; 6/0/0 repeat;
  -- 5/0/1 live; 5/0/0 refusal 13; 7/0/4 refusal 12
  pub c13 :
      answers (fresh_box 0)
      (hex "C2 30 13 00 01 01 01 02 80 30 81 C8 00 93 03 E5 00 01 70 5F E6 55"
      ∷ hex "C2 30 13 00 01 01 01 02 80 30 81 C8 00 93 03 E5 00 01 70 5F E6 55"
      ∷ hex "C2 30 13 00 01 01 01 02 80 30 81 C8 00 93 03 E6 00 00 76 F7 0E 6B"
      ∷ hex "C2 30 13 00 01 01 01 02 80 30 81 C8 00 93 03 E5 01 01 A2 46 27 89"
      ∷ hex "C2 30 13 00 01 01 01 02 80 30 81 C8 00 93 03 E6 00 00 76 F7 0E 6B"
      ∷ hex "C2 30 13 00 01 01 01 02 80 30 81 C8 00 93 03 E5 00 01 70 5F E6 55"
      ∷ hex "C2 30 13 00 01 01 01 02 80 30 81 C8 00 93 03 E5 00 00 74 9E FB E2"
      ∷ hex "C2 30 13 00 01 01 01 02 80 30 81 C8 00 93 03 E7 00 04 64 2B D4 30"
      ∷ [])
      ≡ right (Stored 1) ∷ right Repeat ∷ right (Live 6) ∷ right (Stored 1) ∷ right Repeat ∷ right (Live 5) ∷ wrong 13 ∷ wrong 12 ∷ []

pub examples : Examples
unfolding computed
examples =
    record {
      c1 = (refl, refl, refl);
      c2 = (refl, refl);
      c3 = (refl, refl, refl);
      c4 = (refl, refl, refl, refl);
      c5 = (refl, refl);
      c6 = (refl, refl, refl, refl);
      c7 = (refl, refl);
      c8 = (refl, refl);
      c9 = refl;
      c10 = refl;
      c11 = (refl, refl, refl, refl);
      c12 = refl;
      c13 = refl;
    }
