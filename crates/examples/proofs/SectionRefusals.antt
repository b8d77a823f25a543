-- Document 01, "Numbers of refusal", 4 to 10: every clause on both sides of its border, computed. A rule that drops a clause, loosens or
-- tightens it, or looks at other bits gives one of these inputs another answer. What a number can be is swept over all its values, a bit
-- over all bits of a section; what has passed checks 3 to 6 is swept without its CRC.
use Prim.Native.Nat.{ℕ, ◌+◌, ◌-◌, ◌*◌}
use Prim.Native.String.{String}
use mathlib.Core.Path.{◌≡◌, refl}
use mathlib.Core.List.{List, [], ◌∷◌, ◌++◌, map}
use lib.ListN.{length, take, replicate}
use Rattle.rules.specs.Section.{check}
use Rattle.rules.proofs.Hex.{hex}
use Rattle.examples.proofs.Sweeps.{swept, sweep, answered_from, answered, flipped, counting}
use Rattle.rules.proofs.Computed.{computed}
use Rattle.examples.proofs.Plants.{plant_cds, plant_mms, plant_vcm, plant_dcm}
use Rattle.examples.proofs.SectionFields.{asked_section}
use Rattle.examples.proofs.SectionOrder.{body}

-- a section that reads right, of each table and of each transport
abbrev pub carriers_body : List ℕ
carriers_body = hex "C2 30 13 00 01 01 01 02 80 30 81 C8 00 93 03 E5 00 00"

abbrev pub modes_body : List ℕ
modes_body = hex "C2 30 14 00 01 01 02 2F 08 00 4D 29 AD 00 93 03 E5 00 00"

abbrev pub digital_body : List ℕ
digital_body = hex "C4 30 1D 00 00 00 00 00 00 00 00 00 00 01 00 03 00 12 34 02 00 03 01 93 03 E5 00 00"

abbrev pub analogue_body : List ℕ
analogue_body = hex "C4 30 1D 00 00 00 00 00 00 00 00 00 00 01 00 08 10 12 35 02 80 00 00 93 03 E5 00 00"

abbrev pub ranges_body : List ℕ
ranges_body = hex "C4 30 13 00 01 00 00 00 02 03 83 05 81 93 03 E5 00 00"

-- the bits from byte 1 up to so many bytes that get an answer when they are turned over
abbrev pub bits_of : (answer bytes : ℕ) → List ℕ → List ℕ
bits_of answer bytes section = answered_from (λ b. body (flipped section b)) answer (bytes * 8 - 8) 8

-- the lengths up to the whole that get an answer when the section is cut there
abbrev pub cuts_of : (answer : ℕ) → List ℕ → List ℕ
cuts_of answer section = answered (λ n. body (take n section)) answer (length section + 1)

-- what is answered to a header with zeros behind it, cut to 4 to 15 bytes
abbrev pub short_of : (header : String) → List ℕ
short_of header = map (λ n. body (take n (hex header ++ replicate 8 0))) (counting 4 12)

-- sections with one byte left open
abbrev pub c2_named : ℕ → List ℕ
c2_named subtype = hex "C2 30 0D 00 01 00" ++ (subtype ∷ hex "93 03 E5 00 00")

abbrev pub c4_named : ℕ → List ℕ
c4_named subtype = hex "C4 30 14 00" ++ (subtype ∷ hex "00 00 00 00 00 00 00 00 00 93 03 E5 00 00")

abbrev pub first_index : ℕ → List ℕ
first_index first = hex "C2 30 14 00" ++ (first ∷ hex "01 02 2F 08 00 4D 29 AD 00 93 03 E5 00 00")

abbrev pub carrier_count : (first n : ℕ) → List ℕ
carrier_count first n = hex "C2 30 13 00" ++ (first ∷ hex "01 01" ++ (n ∷ hex "80 30 81 C8 00 93 03 E5 00 00"))

abbrev pub mode : (system_and_inner split_and_format : ℕ) → List ℕ
mode a b = hex "C2 30 14 00 01 01 02" ++ (a ∷ b ∷ hex "00 4D 29 AD 00 93 03 E5 00 00")

abbrev pub channel_flags : ℕ → List ℕ
channel_flags flags =
    hex "C4 30 1D 00 00 00 00 00 00 00 00 00 00 01 00 08" ++ (flags ∷ hex "12 35 02 00 00 00 93 03 E5 00 00")

abbrev pub video_standard : ℕ → List ℕ
video_standard byte6 =
    hex "C4 30 1D 00 00 00 00 00 00 00 00 00 00 01 00 08 10 12 35 02" ++ (byte6 ∷ hex "00 00 93 03 E5 00 00")

abbrev pub two_modes : ℕ → List ℕ
two_modes first = hex "C2 30 1B 00" ++ (first ∷ hex "02 02 2F 08 00 4D 29 AD 00 2F 08 00 4D 29 AD 00 93 03 E5 00 00")

abbrev pub two_carriers : ℕ → List ℕ
two_carriers first = hex "C2 30 19 00" ++ (first ∷ hex "02 01 02 80 30 81 C8 00 02 80 30 81 C8 00 93 03 E5 00 00")

abbrev pub late_ranges : ℕ → List ℕ
late_ranges low = hex "C4 30 13 00 01 00 00 0F" ++ (low ∷ hex "03 82 FF 01 93 03 E5 00 00")

abbrev pub range_byte : ℕ → List ℕ
range_byte range = hex "C4 30 12 00 01 00 00 0F 80 02 81" ++ (range ∷ hex "93 03 E5 00 00")

pub record SectionRefusals : Type 0 where
  -- ---- whole sections, with their CRC, that read right
  pub right_ones : map check (plant_cds ∷ plant_mms ∷ plant_vcm ∷ plant_dcm ∷ asked_section ∷ []) ≡ 0 ∷ 0 ∷ 0 ∷ 0 ∷ 0 ∷ []
  -- ---- refusal 4, before 5: of all table numbers three pass, and then the CRC is wrong
  pub four : answered (λ (n : ℕ). check (n ∷ hex "30 05 00 00 00 00 00")) 5 256 ≡ 0xC2 ∷ 0xC3 ∷ 0xC4 ∷ []
  pub four_others : length (answered (λ (n : ℕ). check (n ∷ hex "30 05 00 00 00 00 00")) 4 256) ≡ 253
  -- ---- refusal 5, before 6: another byte in each place of the CRC, and in front of it
  pub five :
      map check
      (hex "C2 30 0D 00 01 00 01 93 03 E5 00 00 24 DF F3 22"
      ∷ hex "C2 30 0D 00 01 00 01 93 03 E5 00 00 A4 DE F3 22"
      ∷ hex "C2 30 0D 00 01 00 01 93 03 E5 00 00 A4 DF E3 22"
      ∷ hex "C2 30 0D 00 01 00 01 93 03 E5 00 00 A4 DF F3 23"
      ∷ hex "C2 30 0D 01 01 00 01 93 03 E5 00 00 A4 DF F3 22"
      ∷ hex "C2 30 0D 00 01 00 01 93 03 E5 00 00 A4 DF F3 22"
      ∷ [])
      ≡ 5 ∷ 5 ∷ 5 ∷ 5 ∷ 5 ∷ 0 ∷ []
  -- ---- refusal 6, before 7 and 8: each bit of the protocol version, and all of them
  pub six :
      map check
      (hex "C2 30 05 01 B9 88 FD B8"
      ∷ hex "C2 30 05 02 B4 CB DB 61"
      ∷ hex "C2 30 05 04 AE 4D 96 D3"
      ∷ hex "C2 30 05 08 9B 41 0D B7"
      ∷ hex "C2 30 05 10 F1 58 3B 7F"
      ∷ hex "C2 30 05 1F C9 17 86 C2"
      ∷ hex "C2 30 0D 01 01 00 03 93 03 E5 00 00 60 8F 43 B4"
      ∷ [])
      ≡ 6 ∷ 6 ∷ 6 ∷ 6 ∷ 6 ∷ 6 ∷ 6 ∷ []
  -- ---- refusal 7: of all bytes of medium and subtype two are named, of 0xC2 and of 0xC4
  pub seven_c2 : sweep 256 (λ n. body (c2_named n)) ≡ 7 ∷ 0 ∷ 0 ∷ replicate 253 7
  pub seven_c4 : sweep 256 (λ n. body (c4_named n)) ≡ 0 ∷ 0 ∷ replicate 254 7
  -- ---- refusal 8: a section of each table cut at every length
  pub eight_carriers : cuts_of 8 carriers_body ≡ counting 0 13 ++ counting 14 4
  pub eight_modes : cuts_of 8 modes_body ≡ counting 0 14 ++ counting 15 4
  pub eight_channels : cuts_of 8 digital_body ≡ counting 0 23 ++ counting 24 4
  pub eight_ranges : cuts_of 8 ranges_body ≡ counting 0 13 ++ counting 14 4
  -- and of 8 to 19 bytes with the CRC, zeros behind the header (readings, A28): no record, a record of carriers, of a mode; a VCM, a DCM
  pub lengths_none : short_of "C2 30 00 00 01 00 01" ≡ 8 ∷ 8 ∷ 8 ∷ 11 ∷ 8 ∷ 11 ∷ 8 ∷ 11 ∷ 8 ∷ 11 ∷ 8 ∷ 11 ∷ []
  pub lengths_carriers : short_of "C2 30 00 00 01 01 01" ≡ 8 ∷ 8 ∷ 8 ∷ 8 ∷ 8 ∷ 8 ∷ 8 ∷ 8 ∷ 10 ∷ 10 ∷ 10 ∷ 10 ∷ []
  pub lengths_modes : short_of "C2 30 00 00 01 01 02" ≡ 8 ∷ 8 ∷ 8 ∷ 8 ∷ 8 ∷ 8 ∷ 8 ∷ 8 ∷ 8 ∷ 8 ∷ 11 ∷ 8 ∷ []
  pub lengths_channels : short_of "C4 30 00 00 00 00 00" ≡ 8 ∷ 8 ∷ 8 ∷ 8 ∷ 8 ∷ 8 ∷ 8 ∷ 8 ∷ 8 ∷ 8 ∷ 11 ∷ 8 ∷ []
  pub lengths_ranges : short_of "C4 30 00 00 01 00 00" ≡ 8 ∷ 8 ∷ 8 ∷ 8 ∷ 8 ∷ 8 ∷ 11 ∷ 8 ∷ 11 ∷ 8 ∷ 11 ∷ 8 ∷ []
  -- ---- refusal 9: of a section of each table, from byte 1 up to its closing list, these are the zero bits
  pub nine_carriers : bits_of 9 13 carriers_body ≡ 8 ∷ 9 ∷ 24 ∷ 25 ∷ 26 ∷ 65 ∷ []
  pub nine_modes : bits_of 9 14 modes_body ≡ 8 ∷ 9 ∷ 24 ∷ 25 ∷ 26 ∷ 65 ∷ 66 ∷ 72 ∷ 73 ∷ 74 ∷ 75 ∷ []
  pub nine_digital :
      bits_of 9 23 digital_body
      ≡ 8 ∷ 9 ∷ 24 ∷ 25 ∷ 26 ∷ 56 ∷ 57 ∷ 59 ∷ 60 ∷ 61 ∷ 62 ∷ 63 ∷ counting 65 7 ++ counting 112 4 ++ (129 ∷ 131 ∷ [])
  pub nine_analogue :
      bits_of 9 23 analogue_body
      ≡ 8 ∷ 9 ∷ 24 ∷ 25 ∷ 26 ∷ 56 ∷ 57 ∷ 59 ∷ 60 ∷ 61 ∷ 62 ∷ 63 ∷ counting 65 7 ++ counting 112 4 ++ (129 ∷ 161 ∷ 162 ∷ 163 ∷ counting 168 16)
  pub nine_ranges : bits_of 9 13 ranges_body ≡ 8 ∷ 9 ∷ 24 ∷ 25 ∷ 26 ∷ 39 ∷ 56 ∷ 57 ∷ 58 ∷ 59 ∷ 72 ∷ []
  -- ---- refusal 10
  -- first index 0 and no other; an index above 255, of a mode and of the last carrier of a record; carriers 0
  pub ten_first : sweep 256 (λ n. body (first_index n)) ≡ 10 ∷ replicate 255 0
  pub ten_modes : map (λ first. body (two_modes first)) (254 ∷ 255 ∷ []) ≡ 0 ∷ 10 ∷ []
  pub ten_carriers : sweep 256 (λ n. body (carrier_count 253 n)) ≡ 10 ∷ 0 ∷ 0 ∷ 0 ∷ replicate 252 10
  -- each carrier takes one index, over all records of the section
  pub ten_counted : map (λ first. body (two_carriers first)) (252 ∷ 253 ∷ []) ≡ 0 ∷ 10 ∷ []
  -- of all systems, inner codings and formats those that Tables 5.7, 5.8 and 5.9 assign, and no other
  pub ten_systems : sweep 16 (λ n. body (mode (n * 16 + 15) 8)) ≡ 0 ∷ 10 ∷ 0 ∷ 0 ∷ 0 ∷ replicate 11 10
  pub ten_codings :
      sweep 16 (λ n. body (mode (0x20 + n) 8))
      ≡ 0 ∷ 0 ∷ 10 ∷ 0 ∷ 10 ∷ 0 ∷ 10 ∷ 0 ∷ 0 ∷ 0 ∷ 10 ∷ 0 ∷ 10 ∷ 10 ∷ 10 ∷ 0 ∷ []
  pub ten_formats : sweep 32 (λ n. body (mode 0x2F n)) ≡ replicate 25 0 ++ replicate 7 10
  -- channel types 0 and 1; video standards 0 to 4, and 9 for each zero bit in front of them
  pub ten_types : sweep 16 (λ n. body (channel_flags n)) ≡ 0 ∷ 0 ∷ replicate 14 10
  pub ten_standards : sweep 32 (λ n. body (video_standard n)) ≡ replicate 5 0 ++ replicate 11 10 ++ replicate 16 9
  -- channel count 0, defined or not; a range past 4095, by the ranges before it too
  pub ten_ranges : sweep 256 (λ n. body (range_byte n)) ≡ 10 ∷ replicate 127 0 ++ (10 ∷ replicate 127 0)
  pub ten_past : map (λ low. body (late_ranges low)) (0x7E ∷ 0x7F ∷ []) ≡ 0 ∷ 10 ∷ []
  -- all other tags are unknown and passed over: of all tags in front of the revision 0x93 alone is a second one; in a record's list every tag is passed over
  pub tags : sweep 256 (λ tag. body (hex "C2 30 00 00 01 00 01" ++ (tag ∷ hex "00 93 03 E5 00 00"))) ≡ replicate 0x93 0 ++ (11 ∷ replicate 108 0)
  pub record_tags : sweep 256 (λ tag. body (hex "C2 30 00 00 01 01 01 01 00 00 15 18 01" ++ (tag ∷ hex "00 93 03 E5 00 00"))) ≡ replicate 256 0

pub section-refusals : SectionRefusals
unfolding computed swept
section-refusals =
    record {
      right_ones = refl;
      four = refl;
      four_others = refl;
      five = refl;
      six = refl;
      seven_c2 = refl;
      seven_c4 = refl;
      eight_carriers = refl;
      eight_modes = refl;
      eight_channels = refl;
      eight_ranges = refl;
      lengths_none = refl;
      lengths_carriers = refl;
      lengths_modes = refl;
      lengths_channels = refl;
      lengths_ranges = refl;
      nine_carriers = refl;
      nine_modes = refl;
      nine_digital = refl;
      nine_analogue = refl;
      nine_ranges = refl;
      ten_first = refl;
      ten_modes = refl;
      ten_carriers = refl;
      ten_counted = refl;
      ten_systems = refl;
      ten_codings = refl;
      ten_formats = refl;
      ten_types = refl;
      ten_standards = refl;
      ten_ranges = refl;
      ten_past = refl;
      tags = refl;
      record_tags = refl;
    }
