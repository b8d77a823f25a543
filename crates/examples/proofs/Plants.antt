-- What the facts share: plants, as the sections that they send, with their CRC; and parts of a section.
use Prim.Native.Nat.{ℕ}
use Prim.Native.String.{String}
use mathlib.Core.List.{List, [], ◌∷◌, ◌++◌}
use Rattle.rules.specs.Descriptors.{Descriptor}
use Rattle.rules.specs.Parts.{Piece, Parts}
use Rattle.rules.proofs.Hex.{hex}

-- C1, C12 at mode index 1, C7 and C9, first index 1
abbrev pub example_plant : List (List ℕ)
example_plant =
    hex "C2 30 13 00 01 01 01 02 80 30 81 C8 00 93 03 E5 00 00 74 9E FB E2"
    ∷ hex "C2 30 14 00 01 01 02 2F 08 00 4D 29 AD 00 93 03 E5 00 00 CE 5B B1 EE"
    ∷ hex "C4 30 13 00 01 00 00 00 02 03 83 05 81 93 03 E5 00 00 90 74 69 2E"
    ∷ hex "C4 30 1D 00 00 00 00 00 00 00 00 00 00 01 00 03 00 12 34 02 00 03 01 93 03 E5 00 00 43 E6 31 47"
    ∷ []

-- for map 0x0102, versions 1 to 4: no carrier, no mode, applications on channels 0 and 4095; then a repeat, and a section that is cut
abbrev pub first_and_last : List (List ℕ)
first_and_last =
    hex "C2 30 0D 00 01 00 01 93 03 E1 00 00 A3 BD 41 3E"
    ∷ hex "C2 30 0D 00 01 00 02 93 03 E2 00 00 8C AC A3 3F"
    ∷ hex "C4 30 26 00 00 01 02 00 00 00 00 00 00 02 00 00 80 00 07 00 00 00 00 0F FF A1 01 02 00 00 00 00 93 03 E3 00 00 D0 92 38 08"
    ∷ hex "C4 30 11 00 01 01 02 0F FF 01 81 93 03 E4 01 01 D9 9D 63 A3"
    ∷ hex "C4 30 11 00 01 01 02 00 00 01 81 93 03 E4 00 01 35 27 1F 72"
    ∷ hex "C2 30 0D 00 01 00 01 93 03 E1 00 00 A3 BD 41 3E"
    ∷ hex "C2 30"
    ∷ []

-- a plant with another value in every field, for map 0x0102: a section of each table
abbrev pub plant_cds : List ℕ
plant_cds = hex "C2 30 19 00 03 02 01 02 02 58 81 C8 00 03 80 30 17 70 00 93 03 E5 00 00 E5 14 27 86"

abbrev pub plant_mms : List ℕ
plant_mms = hex "C2 30 1B 00 07 02 02 4B 98 01 23 45 67 00 00 00 0F FF FF FF 00 93 03 E5 00 00 9D A4 6B DF"

abbrev pub plant_vcm : List ℕ
plant_vcm =
    hex "C4 30 34 00 00 01 02 20 80 12 34 56 78 03 01 23 21 03 04 04 01 02 07 00 01 24 A0 05 06 00 00 00 00 01 94 00"
    ++ hex "01 25 10 07 08 06 84 00 00 00 93 03 E5 00 00 3F CD 78 14"

abbrev pub plant_dcm : List ℕ
plant_dcm = hex "C4 30 13 00 01 01 02 01 22 03 01 83 7F 93 03 E5 00 00 BC C8 E8 15"

-- its names, in English: of number 0x0506 without the flag of an application and of 0x0304 with it; then of channel 0x123, whose name is an effector of a
-- single byte, a character of 16 bits and again an effector, with two descriptors behind it; of channel 0x124, an application; of channel 0x123 again
abbrev pub plant_ntt : List ℕ
plant_ntt =
    hex "C3 30 40 00 65 6E 67 06 05 00 05 06 03 00 01 51 00 80 03 04 03 00 01 52 00 00 03 04 06 80 3F 02 4E 2D 9F 02 93 00 80 01 AA"
    ++ hex "80 05 06 04 00 02 41 42 00 00 03 04 03 00 01 53 00 93 03 E5 00 00 DC D8 FA 69"

-- the names of channel and application 0x1234, and one that they may grow into
abbrev pub names_plain : List ℕ
names_plain = hex "C3 30 20 00 65 6E 67 06 02 00 12 34 03 00 01 41 00 80 12 34 01 40 01 80 01 01 93 03 E5 00 00 85 CA C3 49"

abbrev pub names_grown : List ℕ
names_grown =
    hex "C3 00 2C 00 65 6E 67 06 02 00 12 34 03 00 01 41 02 93 00 80 01 AA 80 12 34 01 40 02 82 00 80 02 FF FE"
    ++ hex "81 00 93 05 05 00 00 AA BB F4 90 F0 3B"

-- a descriptor, and a record with its list
abbrev pub d : (tag : ℕ) → (body : String) → Descriptor
d tag body = record { tag = tag; body = hex body }

abbrev pub p : (own : String) → List Descriptor → Piece
p own list = record { own = hex own; list = list }

-- the section of the example plant with the record of C1
abbrev pub carriers_plain : List ℕ
carriers_plain = hex "C2 30 13 00 01 01 01 02 80 30 81 C8 00 93 03 E5 00 00 74 9E FB E2"

-- parts of a section: bytes 0 and 1, the rest of the header, the head, the records
abbrev pub parts : (number flags : ℕ) → (header head : List ℕ) → List Piece → Parts
parts number flags header head pieces =
    record {
      number = number;
      flags = flags;
      low = 0x10;
      header = header;
      head = head;
      pieces = pieces;
      closing = d 0x93 "E5 00 00" ∷ [];
    }

abbrev pub record1 : List Piece
record1 = p "02 80 30 81 C8" [] ∷ []

-- two records of carriers from an index on, of one and of two
abbrev pub two_records : (first : ℕ) → Parts
two_records first = parts 0xC2 0x30 (0 ∷ first ∷ 2 ∷ 1 ∷ []) [] (p "01 00 00 15 18" [] ∷ p "02 00 00 15 18" [] ∷ [])

abbrev pub channel1 : List Descriptor → List Piece
channel1 list = p "00 03 00 12 34 02 00 03 01" list ∷ []
