-- Document 01, "Bytes of a section": what a section says, field by field, computed. Every field has another value, or all its bits, so that a rule which
-- takes other bits, or another field, says something else. Read behind checks 3 to 6, without the CRC; with it: SectionRefusals.antt.
use Prim.Native.Nat.{ℕ}
use mathlib.Core.Path.{◌≡◌, refl}
use mathlib.Core.List.{List, [], ◌∷◌, ◌++◌, map}
use mathlib.Core.Option.{Option, none, some}
use Rattle.rules.specs.Crc.{bits_of, crc_of}
use Rattle.rules.specs.Descriptors.{Descriptor}
use Rattle.rules.specs.Layout.{Numbered}
use Rattle.rules.specs.Tables.{carriers_zeros, carriers_of, carrier_khz, mode_zeros, mode_of, vcm_head_zeros, vcm_head_of, transport_of, channel_zeros}
use Rattle.rules.specs.Tables.{channel_of, dcm_head_zeros, dcm_head_of, range_of}
use Rattle.rules.specs.Form.{form, no_language}
use Rattle.rules.specs.Meaning.{Meaning, meant}
use Rattle.rules.specs.Section.{Structure, Reading, wrong, right, content, without_crc, read, read_as, asked_of, part_of, part_at}
use Rattle.rules.specs.declared.Table.{Table}
use Rattle.rules.specs.declared.Table.TheVariants.{Cds, Mms, Vcm, Dcm}
use Rattle.rules.specs.declared.Carriers.{Carriers}
use Rattle.rules.specs.declared.Mode.{Mode}
use Rattle.rules.specs.declared.Channel.{Channel}
use Rattle.rules.specs.declared.Signal.TheVariants.{Digital, Analogue}
use Rattle.rules.specs.declared.Range.{Range}
use Rattle.rules.specs.declared.Revision.{Revision}
use Rattle.rules.specs.Lineup.{text}
use Rattle.rules.proofs.Hex.{hex}
use Rattle.rules.proofs.Examples.{carriers, modes, channels, ranges}
use Rattle.examples.proofs.Plants.{plant_cds, plant_mms, plant_vcm, plant_dcm}
use Rattle.examples.proofs.Sweeps.{swept, sweep, answered, as_number, halves, holding}
use Rattle.rules.proofs.Computed.{computed}
use Rattle.rules.specs.Section.{part}
use Rattle.std.specs.Prelude.{Some, None}

-- what the plant with another value in every field says
abbrev plant_carriers : List (Numbered Carriers)
plant_carriers =
    record { index = 3; what = record { count = 2; spacing = record { unit = 0; number = 600 }; first = record { unit = 1; number = 456 } } }
    ∷ record { index = 5; what = record { count = 3; spacing = record { unit = 1; number = 48 }; first = record { unit = 0; number = 6000 } } }
    ∷ []

abbrev plant_modes : List (Numbered Mode)
plant_modes =
    record { index = 7; what = record { system = 4; inner = 11; split = 1; format = 24; symbols = 0x1234567 } }
    ∷ record { index = 8; what = record { system = 0; inner = 0; split = 0; format = 0; symbols = 0xFFFFFFF } }
    ∷ []

abbrev plant_channels : List (Numbered Channel)
plant_channels =
    record { index = 0; what = record { number = 0x123; application = 0; path = 1; kind = 1; source = 0x0304; carrier = 4; signal = Digital 0x0102 7 } }
    ∷ record { index = 0; what = record { number = 0x124; application = 1; path = 1; kind = 0; source = 0x0506; carrier = 0; signal = Digital 0 0 } }
    ∷ record { index = 0; what = record { number = 0x125; application = 0; path = 0; kind = 0; source = 0x0708; carrier = 6; signal = Analogue 1 4 } }
    ∷ []

abbrev plant_ranges : List (Numbered Range)
plant_ranges =
    record { index = 0x122; what = record { defined = 0; count = 1 } }
    ∷ record { index = 0x123; what = record { defined = 1; count = 3 } }
    ∷ record { index = 0x126; what = record { defined = 0; count = 127 } }
    ∷ []

abbrev revision5 : Revision
revision5 = record { version = 5; number = 0; last = 0 }

abbrev closing5 : List Descriptor
closing5 = record { tag = 0x93; body = hex "E5 00 00" } ∷ []

-- what a section reads as that has passed checks 3 to 6
abbrev pub behind : List ℕ → Reading
behind s = read (content (without_crc s))

-- what a section means that has passed checks 3 to 6, if it reads right
abbrev pub meant_by : Reading → Option Meaning
meant_by (wrong n) = none
meant_by (right c) = some (meant c)

-- descriptors in the closing list: 0x80, the revision, 0x81, and 0x80 again
abbrev pub asked_section : List ℕ
asked_section = hex "C2 30 17 00 01 00 01 80 02 AA BB 93 04 E5 00 00 FF 81 00 80 01 CC 7A C6 10 76"

-- a section of version 5, 0 of 0, with nothing else in its closing list
abbrev said_as : Table → Structure → Reading
said_as t structure = right (record { table = t; structure = structure; closing = closing5; revision = revision5 })

pub record SectionFields : Type 0 where
  -- ---- what a section reads as: a plant with another value in every field, units mixed both ways
  pub reads_carriers :
      behind plant_cds
      ≡ said_as Cds (carriers 3 plant_carriers)
  pub reads_modes :
      behind plant_mms
      ≡ said_as Mms (modes 7 plant_modes)
  pub reads_channels :
      behind plant_vcm
      ≡ said_as Vcm (channels 0x0102 1 1 0x12345678 plant_channels)
  pub reads_ranges :
      behind plant_dcm
      ≡ said_as Dcm (ranges 0x0102 0x122 plant_ranges)
  -- the version is the five low bits, number and last all bits of their bytes; three bytes more are passed over
  pub reads_revision :
      read (content (hex "C2 30 00 00 01 00 01 80 00 93 06 DF FE FF 01 02 03"))
      ≡ right
      (record {
        table = Cds;
        structure = carriers 1 [];
        closing = record { tag = 0x80; body = [] } ∷ record { tag = 0x93; body = hex "DF FE FF 01 02 03" } ∷ [];
        revision = record { version = 31; number = 254; last = 255 };
      })
  -- the header of 0xC4 says the map number, and 0 for each field that it does not have
  pub header_map :
      (form Vcm).header.look (hex "00 00 FF FE")
      ≡ record { map = 0xFFFE; language = no_language; first = 0; count = 0; included = 0; splice = 0; time = 0 }
  pub no_language_computed : no_language ≡ record { first = 0; second = 0; third = 0 }
  -- ---- what a section means: table, map number, language, first index or channel, splice, activation time, records
  pub means_carriers :
      meant_by (behind plant_cds)
      ≡ some (record { table = Cds; map = 0; language = no_language; first = 3; splice = 0; time = 0; lists = (carriers 3 plant_carriers).lists })
  pub means_channels :
      meant_by (behind plant_vcm)
      ≡ some (record {
        table = Vcm;
        map = 0x0102;
        language = no_language;
        first = 0;
        splice = 1;
        time = 0x12345678;
        lists = (channels 0x0102 1 1 0x12345678 plant_channels).lists;
      })
  pub means_ranges :
      meant_by (behind plant_dcm)
      ≡ some (record {
        table = Dcm;
        map = 0x0102;
        language = no_language;
        first = 0x122;
        splice = 0;
        time = 0;
        lists = (ranges 0x0102 0x122 plant_ranges).lists;
      })
  -- and nothing else: not the revision, nor lists of descriptors and whether they are included, nor L and the reserved bits
  pub means_same :
      meant_by (read (content (hex "C4 30 00 00 00 01 02 00 80 12 34 56 78 01 00 03 00 12 34 02 00 03 01 93 03 E5 00 00")))
      ≡ meant_by (read (content (hex "C4 05 66 00 00 01 02 20 80 12 34 56 78 01 00 03 00 12 34 02 00 03 01 01 80 01 AA 81 00 93 04 06 01 02 FF")))
  pub means_nothing : meant_by (wrong 3) ≡ none
  -- ---- fields of ones: each has all its bits, and no other
  pub ones_carriers :
      carriers_of (hex "FF FF FF FF FF")
      ≡ record { count = 255; spacing = record { unit = 1; number = 16383 }; first = record { unit = 1; number = 32767 } }
  pub ones_mode : mode_of (hex "FF FF FF FF FF FF") ≡ record { system = 15; inner = 15; split = 1; format = 31; symbols = 268435455 }
  pub ones_vcm : vcm_head_of (hex "FF FF FF FF FF FF FF") ≡ record { included = 1; splice = 1; time = 4294967295; count = 255 }
  pub ones_dcm : dcm_head_of (hex "FF FF FF") ≡ record { first = 4095; count = 127 }
  pub ones_channel :
      channel_of (hex "FF FF FF FF FF FF FF FF FF")
      ≡ record { number = 4095; application = 1; path = 1; kind = 15; source = 65535; carrier = 255; signal = Analogue 1 15 }
  pub ones_digital :
      channel_of (hex "FF FF EF FF FF FF FF FF FF")
      ≡ record { number = 4095; application = 1; path = 1; kind = 15; source = 65535; carrier = 255; signal = Digital 65535 255 }
  pub ones_range : range_of (hex "FF") ≡ record { defined = 1; count = 127 }
  -- "each in its own unit": the spacing in 10 kHz and the frequency in 125 kHz, and the other way round
  pub units : map (λ k. carrier_khz (carriers_of (hex "02 02 58 81 C8")) k) (0 ∷ 1 ∷ 2 ∷ []) ≡ 57000 ∷ 63000 ∷ 69000 ∷ []
  pub units_other : map (λ k. carrier_khz (carriers_of (hex "03 80 30 17 70")) k) (0 ∷ 1 ∷ 2 ∷ []) ≡ 60000 ∷ 66000 ∷ 72000 ∷ []
  -- each bit and each zero bit over all values of its byte: a bit has the second half of its values, zero bits leave so many
  pub every_spacing :
      (sweep 256 (λ b. (carriers_of (0 ∷ b ∷ [])).spacing.unit) ≡ halves 128 1)
      × (sweep 256 (λ b. as_number (carriers_zeros (0 ∷ b ∷ []))) ≡ holding 64 64 2)
  pub every_frequency : sweep 256 (λ b. (carriers_of (0 ∷ 0 ∷ 0 ∷ b ∷ [])).first.unit) ≡ halves 128 1
  pub every_mode : (sweep 256 (λ b. (mode_of (0 ∷ b ∷ [])).split) ≡ halves 128 1) × (sweep 256 (λ b. as_number (mode_zeros (0 ∷ b ∷ []))) ≡ holding 32 96 2)
  pub every_symbols : sweep 256 (λ b. as_number (mode_zeros (0 ∷ 0 ∷ b ∷ []))) ≡ holding 16 240 1
  pub every_included : (sweep 256 (λ b. (vcm_head_of (b ∷ [])).included) ≡ halves 32 4) × (answered (λ b. as_number (vcm_head_zeros (b ∷ []))) 1 256 ≡ 0 ∷ 32 ∷ [])
  pub every_splice :
      (sweep 256 (λ b. (vcm_head_of (0 ∷ b ∷ [])).splice) ≡ halves 128 1)
      × (answered (λ b. as_number (vcm_head_zeros (0 ∷ b ∷ []))) 1 256 ≡ 0 ∷ 128 ∷ [])
  pub every_number : sweep 256 (λ b. as_number (channel_zeros (b ∷ []))) ≡ holding 16 240 1
  pub every_flags :
      (sweep 256 (λ b. (channel_of (0 ∷ 0 ∷ b ∷ [])).application) ≡ halves 128 1)
      × (sweep 256 (λ b. as_number (channel_zeros (0 ∷ 0 ∷ b ∷ []))) ≡ holding 64 64 2)
      × (sweep 256 (λ b. (channel_of (0 ∷ 0 ∷ b ∷ [])).path) ≡ halves 32 4)
      × (sweep 256 (λ b. transport_of (0 ∷ 0 ∷ b ∷ [])) ≡ halves 16 8)
  pub every_standard : sweep 256 (λ b. as_number (channel_zeros (hex "00 00 10 00 00 00" ++ (b ∷ [])))) ≡ holding 16 112 2
  pub every_first : sweep 256 (λ b. as_number (dcm_head_zeros (b ∷ []))) ≡ holding 16 240 1
  pub every_length : sweep 256 (λ b. as_number (dcm_head_zeros (0 ∷ 0 ∷ b ∷ []))) ≡ holding 128 128 1
  pub every_range : sweep 256 (λ b. (range_of (b ∷ [])).defined) ≡ halves 128 1
  -- ---- what the reader answers: the refusal, or the head, of each table, with descriptors in front of the closing list and in it
  pub head_refused : read_as (hex "C2 30 0F") (wrong 3) ≡ wrong 3
  pub head_carriers :
      read_as plant_cds (behind plant_cds)
      ≡ right (record { table = Cds; map = 0; language = no_language; revision = revision5; closing = 19 })
  pub head_modes :
      read_as plant_mms (behind plant_mms)
      ≡ right (record { table = Mms; map = 0; language = no_language; revision = revision5; closing = 21 })
  pub head_channels :
      read_as plant_vcm (behind plant_vcm)
      ≡ right (record { table = Vcm; map = 0x0102; language = no_language; revision = revision5; closing = 46 })
  pub head_ranges :
      read_as plant_dcm (behind plant_dcm)
      ≡ right (record { table = Dcm; map = 0x0102; language = no_language; revision = revision5; closing = 13 })
  -- ---- the descriptor question: the body of the first of a tag, behind others, as a part of the section
  pub asked :
      map (λ tag. asked_of tag asked_section (behind asked_section)) (0x93 ∷ 0x80 ∷ 0x81 ∷ 0x82 ∷ [])
      ≡ right (Some (part 13 4)) ∷ right (Some (part 9 2)) ∷ right (Some (part 19 0)) ∷ right None ∷ []
  pub asked_parts :
      map (λ tag. part_of asked_section (asked_of tag asked_section (behind asked_section))) (0x93 ∷ 0x80 ∷ 0x81 ∷ 0x82 ∷ [])
      ≡ hex "E5 00 00 FF" ∷ hex "AA BB" ∷ [] ∷ [] ∷ []
  pub asked_refused : part_of (hex "C2 30 0F") (asked_of 0x80 (hex "C2 30 0F") (wrong 3)) ≡ []
  pub asked_places :
      map (λ tag. part_at (asked_of tag asked_section (behind asked_section))) (0x93 ∷ 0x80 ∷ 0x81 ∷ 0x82 ∷ [])
      ≡ 13 ∷ 9 ∷ 19 ∷ 0 ∷ []
  pub refused_place : part_at (asked_of 0x80 (hex "C2 30 0F") (wrong 3)) ≡ 0
  -- ---- the CRC: its check value, that of the digits 1 to 9, and the bits of a byte, most significant first
  pub crc : crc_of (text "123456789") ≡ 0x0376E6E7
  pub crc_bits :
      map (λ b. bits_of (b ∷ [])) (hex "80 7F 40 3F 20 1F 10 0F 08 07 04 03 02 01")
      ≡ (1 ∷ 0 ∷ 0 ∷ 0 ∷ 0 ∷ 0 ∷ 0 ∷ 0 ∷ [])
      ∷ (0 ∷ 1 ∷ 1 ∷ 1 ∷ 1 ∷ 1 ∷ 1 ∷ 1 ∷ [])
      ∷ (0 ∷ 1 ∷ 0 ∷ 0 ∷ 0 ∷ 0 ∷ 0 ∷ 0 ∷ [])
      ∷ (0 ∷ 0 ∷ 1 ∷ 1 ∷ 1 ∷ 1 ∷ 1 ∷ 1 ∷ [])
      ∷ (0 ∷ 0 ∷ 1 ∷ 0 ∷ 0 ∷ 0 ∷ 0 ∷ 0 ∷ [])
      ∷ (0 ∷ 0 ∷ 0 ∷ 1 ∷ 1 ∷ 1 ∷ 1 ∷ 1 ∷ [])
      ∷ (0 ∷ 0 ∷ 0 ∷ 1 ∷ 0 ∷ 0 ∷ 0 ∷ 0 ∷ [])
      ∷ (0 ∷ 0 ∷ 0 ∷ 0 ∷ 1 ∷ 1 ∷ 1 ∷ 1 ∷ [])
      ∷ (0 ∷ 0 ∷ 0 ∷ 0 ∷ 1 ∷ 0 ∷ 0 ∷ 0 ∷ [])
      ∷ (0 ∷ 0 ∷ 0 ∷ 0 ∷ 0 ∷ 1 ∷ 1 ∷ 1 ∷ [])
      ∷ (0 ∷ 0 ∷ 0 ∷ 0 ∷ 0 ∷ 1 ∷ 0 ∷ 0 ∷ [])
      ∷ (0 ∷ 0 ∷ 0 ∷ 0 ∷ 0 ∷ 0 ∷ 1 ∷ 1 ∷ [])
      ∷ (0 ∷ 0 ∷ 0 ∷ 0 ∷ 0 ∷ 0 ∷ 1 ∷ 0 ∷ [])
      ∷ (0 ∷ 0 ∷ 0 ∷ 0 ∷ 0 ∷ 0 ∷ 0 ∷ 1 ∷ [])
      ∷ []
  pub crc_row : bits_of (hex "A7 58") ≡ bits_of (hex "A7") ++ bits_of (hex "58")

pub section-fields : SectionFields
unfolding computed swept
section-fields =
    record {
      reads_carriers = refl;
      reads_modes = refl;
      reads_channels = refl;
      reads_ranges = refl;
      reads_revision = refl;
      header_map = refl;
      no_language_computed = refl;
      means_carriers = refl;
      means_channels = refl;
      means_ranges = refl;
      means_same = refl;
      means_nothing = refl;
      ones_carriers = refl;
      ones_mode = refl;
      ones_vcm = refl;
      ones_dcm = refl;
      ones_channel = refl;
      ones_digital = refl;
      ones_range = refl;
      units = refl;
      units_other = refl;
      every_spacing = (refl, refl);
      every_frequency = refl;
      every_mode = (refl, refl);
      every_symbols = refl;
      every_included = (refl, refl);
      every_splice = (refl, refl);
      every_number = refl;
      every_flags = (refl, refl, refl, refl);
      every_standard = refl;
      every_first = refl;
      every_length = refl;
      every_range = refl;
      head_refused = refl;
      head_carriers = refl;
      head_modes = refl;
      head_channels = refl;
      head_ranges = refl;
      asked = refl;
      asked_parts = refl;
      asked_refused = refl;
      asked_places = refl;
      refused_place = refl;
      crc = refl;
      crc_bits = refl;
      crc_row = refl;
    }
