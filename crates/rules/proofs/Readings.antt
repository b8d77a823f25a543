-- Where document 01 or a request can be read in two ways, the one taken: the entries marked in docs/DECISIONS.md, each on an input that
-- tells the ways apart, as one collected fact about the rules. Two parts more hold what no example of the paper shows: the
-- order of the places, and a missing number that is not the last one.
use Prim.Native.Nat.{ℕ, ◌*◌}
use Prim.Native.String.{String}
use mathlib.Core.Path.{◌≡◌, refl}
use mathlib.Core.Bool.{true, false}
use mathlib.Core.List.{List, [], ◌∷◌, ◌++◌, map}
use mathlib.Core.Option.{none, some}
use lib.ListN.{length, replicate}
use Rattle.rules.specs.Layout.{Numbered}
use Rattle.rules.specs.Tables.{Name, carriers_of, mode_of, channel_of, range_of, name_of}
use Rattle.rules.specs.Section.{check, part, ask, part_of}
use Rattle.rules.specs.Holding.{none_live, none_gathered, fresh_holding, fresh, with, live_formed, gathered_formed, place_of, store_size, step_of}
use Rattle.rules.specs.Holding.{offered, gathered_at}
use Rattle.rules.specs.Search.{sections}
use Rattle.rules.specs.Tuning.{Plant, look_up, tune}
use Rattle.rules.specs.Label.{is_name, label_of, channel_label, names_read, labelled, label_bytes}
use Rattle.rules.specs.Lineup.{text, english, sections_of, refusals, channel_line, heading, lineup}
use Rattle.rules.specs.declared.Table.TheVariants.{Cds, Mms, Vcm, Dcm, Ntt}
use Rattle.rules.specs.declared.Holding.{Holding}
use Rattle.rules.specs.declared.State.{State}
use Rattle.rules.specs.declared.Answer.TheVariants.{OtherMap, Repeat, Stored}
use Rattle.rules.specs.declared.Carriers.{Carriers}
use Rattle.rules.specs.declared.Mode.{Mode}
use Rattle.rules.specs.declared.Channel.{Channel}
use Rattle.rules.specs.declared.Range.{Range}
use Rattle.rules.specs.declared.Tuned.TheVariants as Tuned
use Rattle.rules.specs.declared.Labelled.TheVariants as Labelled
use Rattle.rules.proofs.Hex.{hex}
use Rattle.rules.proofs.Computed.{computed}
use Rattle.rules.specs.Refusals.{wrong, right}
use Rattle.std.specs.Prelude.{Some, None}

-- version 5 with last 3 being gathered, and these numbers held
abbrev pub holding5 : (held : ℕ) → Holding
holding5 held =
    record { live = none_live; gathered = record { present = 1; version = 5; last = 3; held = held }; half = 1 }

-- version 5 with last 0 live
abbrev pub live5 : Holding
live5 = record { live = record { present = 1; version = 5; last = 0 }; gathered = none_gathered; half = 0 }

-- plants of a few records, with the mode of C12 at index 1
abbrev pub c12 : Mode
c12 = mode_of (hex "2F 08 00 4D 29 AD")

abbrev pub carrier : (index : ℕ) → String → List (Numbered Carriers)
carrier index r = record { index = index; what = carriers_of (hex r) } ∷ []

abbrev pub channel : String → List (Numbered Channel)
channel r = record { index = 0; what = channel_of (hex r) } ∷ []

abbrev pub range : (first : ℕ) → String → List (Numbered Range)
range first r = record { index = first; what = range_of (hex r) } ∷ []

abbrev pub c1 : List (Numbered Carriers)
c1 = carrier 1 "02 80 30 81 C8"

abbrev pub c9 : List (Numbered Channel)
c9 = channel "00 03 00 12 34 02 00 03 01"

abbrev pub plant_of : List (Numbered Carriers) → List (Numbered Channel) → List (Numbered Range) → Plant
plant_of cs ns rs = record { carriers = cs; modes = record { index = 1; what = c12 } ∷ []; channels = ns; ranges = rs; names = [] }

-- a box of map 0 that holds nothing but this of names; a channel record; a name record
abbrev pub with_names : Holding → State
with_names held = with (fresh 0 english) Ntt held

abbrev pub channel_is : String → Numbered Channel
channel_is r = record { index = 0; what = channel_of (hex r) }

abbrev pub name_is : String → Numbered Name
name_is r = record { index = 0; what = name_of (hex r) }

pub record Readings : Type 0 where
  -- A1: medium and subtype of 0xC2 are not there: 8 in the place of 7, before 9
  pub a1 : check (hex "C2 70 05 00 CB 62 C1 CF") ≡ 8
  -- A2: the same for 0xC4
  pub a2 : check (hex "C4 30 05 80 14 AA 64 3D") ≡ 8
  -- A3: 7 is judged before the rest of a cut header
  pub a3 : check (hex "C4 30 06 00 20 ED B7 0B 5D") ≡ 7
  -- A4: the header ends behind the map number and is taken whole: 8 before 9
  pub a4 : check (hex "C4 70 06 00 00 A4 87 2D E8") ≡ 8
  -- A5: the head is a unit of its own: 9 of the header before 8 of the head
  pub a5 : check (hex "C4 70 08 00 00 00 00 4E AF 34 63") ≡ 9
  -- A6: first index 0 is judged with the header, before the first record
  pub a6 : check (hex "C2 30 08 00 00 01 01 EF C0 96 6B") ≡ 10
  -- A7: first index 0 is refused without a record too
  pub a7 : check (hex "C2 30 0D 00 00 00 01 93 03 E5 00 00 FF 7E 2F E8") ≡ 10
  -- A8: record count 0 is good, in 0xC2 and in a VCM
  pub a8 : check (hex "C2 30 0D 00 01 00 01 93 03 E5 00 00 A4 DF F3 22") ≡ 0
  pub a8_vcm : check (hex "C4 30 14 00 00 00 00 00 00 00 00 00 00 00 93 03 E5 00 00 50 B7 08 5C") ≡ 0
  -- A9: data length 0 is good
  pub a9 : check (hex "C4 30 10 00 01 00 00 00 02 00 93 03 E5 00 00 08 A1 EF 3D") ≡ 0
  -- A10: an index above 255 is judged with the record that passes it: behind its 8, and before the 9 of a later one
  pub a10 : check (hex "C2 30 11 00 FF 02 02 2F 08 00 4D 29 AD 00 2F 08 7B DB 14 38") ≡ 8
  pub a10_later : check (hex "C2 30 1F 00 FF 03 01 01 00 00 15 18 00 01 00 00 15 18 00 01 40 00 15 18 00 93 03 E5 00 00 AC 55 7D 36") ≡ 10
  -- A11: a record is judged before its descriptor count
  pub a11 : check (hex "C2 30 0D 00 01 01 01 00 00 00 15 18 94 09 28 EF") ≡ 10
  -- A12: each range byte is judged for itself
  pub a12 : check (hex "C4 30 0C 00 01 00 00 00 02 05 80 2B 36 E1 79") ≡ 10
  -- A13: a range that is not defined ends at 4095 too
  pub a13 : check (hex "C4 30 11 00 01 00 00 0F FF 01 02 93 03 E5 00 00 7A 62 E4 83") ≡ 10
  -- A14: system 3 is assigned, and so are system 0 and format 0
  pub a14 : check (hex "C2 30 14 00 01 01 02 3F 08 00 4D 29 AD 00 93 03 E5 00 00 B1 35 81 8E") ≡ 0
  pub a14_system : check (hex "C2 30 14 00 01 01 02 0F 08 00 4D 29 AD 00 93 03 E5 00 00 30 87 D1 2E") ≡ 0
  pub a14_format : check (hex "C2 30 14 00 01 01 02 2F 00 00 4D 29 AD 00 93 03 E5 00 00 1D 78 DE 9B") ≡ 0
  -- A15: an application channel of transport 1 is judged as any record, its standard and its zero bits
  pub a15 : check (hex "C4 30 1D 00 00 00 00 00 00 00 00 00 00 01 00 03 90 00 07 02 05 00 00 93 03 E5 00 00 90 E4 B3 90") ≡ 10
  pub a15_zeros : check (hex "C4 30 1D 00 00 00 00 00 00 00 00 00 00 01 00 03 90 00 07 02 10 00 00 93 03 E5 00 00 0C DB A6 0E") ≡ 9
  -- A16: symbol rate 0 is good; so are source, application, programme and references 0
  pub a16 : check (hex "C2 30 14 00 01 01 02 2F 08 00 00 00 00 00 93 03 E5 00 00 26 17 19 13") ≡ 0
  pub a16_channel : check (hex "C4 30 26 00 00 00 00 00 00 00 00 00 00 02 00 03 00 00 00 00 00 00 00 00 04 80 00 00 00 00 00 00 93 03 E5 00 00 F0 C9 57 DC") ≡ 0
  -- A17: spacing 0 is good
  pub a17 : check (hex "C2 30 13 00 01 01 01 02 00 00 15 18 00 93 03 E5 00 00 C1 33 E8 55") ≡ 0
  -- A18: 0x93 in a record's list is passed over
  pub a18 : check (hex "C2 30 15 00 01 01 01 01 00 00 15 18 01 93 00 93 03 E5 00 00 92 26 DF 6D") ≡ 0
  -- and does not serve where the closing list has none
  pub a18_none : check (hex "C2 30 13 00 01 01 01 01 00 00 15 18 01 93 03 E5 00 00 D4 2F 70 A8") ≡ 11
  -- A20: 8 in the closing list comes before 11
  pub a20 : check (hex "C2 30 14 00 01 00 01 93 03 E5 00 00 93 03 E5 00 00 80 01 81 E6 E7 15") ≡ 8
  -- A21: a lone byte behind the last descriptor is 8; an empty closing list is 11
  pub a21 : check (hex "C2 30 0E 00 01 00 01 93 03 E5 00 00 80 5A E0 77 B9") ≡ 8
  pub a21_empty : check (hex "C2 30 08 00 01 00 01 3C 01 FB 30") ≡ 11
  -- A22: of byte 3 the five low bits are judged as 6, before its zero bits, 9
  pub a22 : check (hex "C2 30 0D 21 01 00 01 93 03 E5 00 00 66 55 6E FE") ≡ 6
  pub a22_version : check (hex "C2 30 0D 01 01 00 01 93 03 E5 00 00 56 DF 59 44") ≡ 6
  pub a22_zeros : check (hex "C2 30 0D 20 01 00 01 93 03 E5 00 00 94 55 C4 98") ≡ 9
  -- A23: all zero bits of a record come before its values
  pub a23 : check (hex "C4 30 1D 00 00 00 00 00 00 00 00 00 00 01 00 03 12 00 00 02 00 00 01 93 03 E5 00 00 CD 44 28 84") ≡ 9
  -- A24: a record count that is too large reads the closing list as records
  pub a24 : check (hex "C2 30 16 00 01 03 02 2F 08 00 4D 29 AD 00 93 03 E5 00 00 80 00 87 B2 9E 18") ≡ 9
  -- A27: the inverse channel map, subtype 2 of 0xC4, is not named
  pub a27 : check (hex "C4 30 0D 00 02 00 00 93 03 E5 00 00 43 23 D1 10") ≡ 7
  -- B1: only answers with a number are counted as refused
  pub b1 : refusals (right OtherMap ∷ right Repeat ∷ wrong 3 ∷ []) ≡ 1
  -- B2: a section of another map is other map, whatever its last
  pub b2 : (offered (fresh 0 english) (replicate 40960 0) (hex "C4 30 14 00 00 00 01 00 00 00 00 00 00 00 93 03 E5 00 09 9A DA AE 56")).answer ≡ right OtherMap
  -- B3: and refused where it does not read right
  pub b3 : (offered (fresh 0 english) (replicate 40960 0) (hex "C4 30 14 00 00 00 01 00 00 00 00 00 00 00 93 03 E5 02 01 1C 20 DD E1")).answer ≡ wrong 11
  -- B8: the half set is used as it stands where nothing is live
  pub b8 : gathered_at (with (fresh 0 english) Cds (record { live = none_live; gathered = none_gathered; half = 0 })) Cds 0 ≡ 4096
  -- B9: nothing live, and a last that is not zero
  pub b9 : live_formed 4 (record { present = 0; version = 0; last = 1 }) ≡ false
  -- B10: held numbers beyond last
  pub b10 : gathered_formed 4 (record { present = 1; version = 5; last = 1; held = 0x11 }) ≡ false
  -- the store: 40 places of 1,024 bytes, tables in the order CDS, MMS, VCM, DCM, NTT, half 0 then half 1
  pub places : map (λ t. place_of 4 t 1 3) (Cds ∷ Mms ∷ Vcm ∷ Dcm ∷ Ntt ∷ []) ≡ 7 * 1024 ∷ 15 * 1024 ∷ 23 * 1024 ∷ 31 * 1024 ∷ 39 * 1024 ∷ []
  pub places_all : store_size 4 ≡ 40960
  -- last + 1 less those held: of 0 to 3 first 2, then 0, then 3
  pub missing : step_of 4 fresh_holding (record { version = 5; number = 2; last = 3 }) ≡ record { answer = right (Stored 3); holding = holding5 0x04 }
  pub missing_two : step_of 4 (holding5 0x04) (record { version = 5; number = 0; last = 3 }) ≡ record { answer = right (Stored 2); holding = holding5 0x05 }
  pub missing_one : step_of 4 (holding5 0x05) (record { version = 5; number = 3; last = 3 }) ≡ record { answer = right (Stored 1); holding = holding5 0x0D }
  -- T1: the first covering range decides, also where it says not defined
  pub t1 : look_up (plant_of c1 c9 (range 3 "01" ++ range 3 "81")) 3 ≡ wrong 17
  -- T2: sections come by their number, lowest first; here each holds one record, its number
  pub t2 : sections (λ n. n ∷ []) 3 0 ≡ 0 ∷ 1 ∷ 2 ∷ []
  -- T3: the first carrier of an index ends the search, also where it is out of range
  pub t3 : look_up (plant_of (carrier 2 "01 00 00 15 17" ++ c1) c9 (range 3 "81")) 3 ≡ wrong 20
  -- T4: so does the first record of a channel, here with carrier reference 0 (T9)
  pub t4 : look_up (plant_of c1 (channel "00 03 00 12 34 00 00 03 01" ++ c9) (range 3 "81")) 3 ≡ wrong 19
  -- T6: an application channel has to be defined too
  pub t6 : look_up (plant_of c1 (channel "00 03 80 00 07 02 00 03 01") (range 4 "81")) 3 ≡ wrong 17
  -- T7: a hidden channel tunes
  pub t7 : look_up (plant_of c1 (channel "00 03 01 12 34 02 00 03 01") (range 3 "81")) 3 ≡ right (Tuned.Digital 1 0 63000 3 c12)
  -- T10: programme 0 tunes
  pub t10 : look_up (plant_of c1 (channel "00 03 00 12 34 02 00 00 01") (range 3 "81")) 3 ≡ right (Tuned.Digital 0 0 63000 0 c12)
  -- T11: without the modes no channel is looked up, of whatever kind
  pub t11 : tune
      (record { tables = record { cds = live5; mms = fresh_holding; vcm = live5; dcm = live5; ntt = live5 }; settings = record { map = 0; language = english } })
      (replicate 40960 0) 8 ≡ wrong 15
  -- T16: a frequency out of range comes before a mode that is missing
  pub t16 : look_up (plant_of (carrier 2 "01 00 00 15 17") (channel "00 03 00 12 34 02 00 03 00") (range 3 "81")) 3 ≡ wrong 20
  -- T17: a fresh box answers 14 before 15
  pub t17 : map (tune (fresh 0 english) (replicate 40960 0)) (4095 ∷ 4096 ∷ []) ≡ wrong 15 ∷ wrong 14 ∷ []
  -- D1: hidden and path stand in the lines of all three kinds (the digital one is a part of `examples`)
  pub d1 : channel_line 3 (right (Tuned.Application 0 1 7)) ≡ text "channel=3 kind=application hidden=0 path=1 application=7\n" ∷ []
  pub d1_analogue : channel_line 8 (right (Tuned.Analogue 1 0 63000 4 1)) ≡ text "channel=8 kind=analogue hidden=1 path=0 khz=63000 standard=4 scrambled=1\n" ∷ []
  -- D3: a last section of one byte is offered as it is
  pub d3 : sections_of (hex "C2") ≡ hex "C2" ∷ []
  -- D4: L above 1,021 takes 3 + L bytes too
  pub d4 : map length (sections_of (hex "C2 33 FE" ++ replicate 1023 0)) ≡ 1025 ∷ 1 ∷ []
  -- D5: fewer than two bytes
  pub d5 : lineup (hex "00") ≡ text "lineup=refused\n"
  -- D6: L 0 takes three bytes
  pub d6 : sections_of (hex "00 00 00 00 00 00") ≡ hex "00 00 00" ∷ hex "00 00 00" ∷ []
  -- E1: an empty body is there
  pub e1 : ask 0x80 (hex "C2 30 0F 00 01 00 01 93 03 E5 00 00 80 00 B0 9C 27 D7") ≡ right (Some (part 14 0))
  pub e1_none : ask 0x81 (hex "C2 30 0F 00 01 00 01 93 03 E5 00 00 80 00 B0 9C 27 D7") ≡ right None
  -- E2: asked of a section that does not read right, the refusal
  pub e2 : ask 0x80 (hex "C2 30 0F") ≡ wrong 3
  -- E3: the first of two with the same tag, and its body as a part of the section; and none where the tag stands only in a
  -- record's list
  pub e3 : ask 0x80 (hex "C2 30 14 00 01 00 01 80 01 AA 80 02 BB CC 93 03 E5 00 00 72 EA 28 5E") ≡ right (Some (part 9 1))
  pub e3_part : part_of (hex "C2 30 14 00 01 00 01 80 01 AA 80 02 BB CC 93 03 E5 00 00 72 EA 28 5E") (right (Some (part 9 1))) ≡ 0xAA ∷ []
  pub e3_record : ask 0x81 (hex "C2 30 16 00 01 01 01 02 80 30 81 C8 01 81 01 EE 93 03 E5 00 00 D8 EA 0D 47") ≡ right None
  -- ---- request 2026-01, names: n1 is Q1 of the readings, and so on; those that no input tells apart, or that are theorems, have no part here
  -- N1: the record count is a head of its own: 9 of the header before the 8 of a count that is cut
  pub n1 : check (hex "C3 70 09 00 65 6E 67 06 AA 56 E2 7A") ≡ 9
  -- but without byte 7, medium and subtype, 8 stands in the place of 7, before 9
  pub n1_short : check (hex "C3 70 08 00 65 6E 67 51 D7 AE 14") ≡ 8
  -- N2: a record of names is taken whole, the name too: 8 of a name that is cut before the 9 of its zero bits
  pub n2 : check (hex "C3 30 10 00 65 6E 67 06 01 01 12 34 03 00 01 B5 56 AA 7B") ≡ 8
  -- its descriptor count is a unit of its own: 10 of the text before the 8 of a count that isn't there
  pub n2_count : check (hex "C3 30 0F 00 65 6E 67 06 01 00 12 34 01 07 16 B7 07 B2") ≡ 10
  -- N3: name length 0 is no text; record count 0 is good
  pub n3 : check (hex "C3 30 14 00 65 6E 67 06 01 00 12 34 00 00 93 03 E5 00 00 E2 47 23 E5") ≡ 10
  pub n3_count : check (hex "C3 30 0F 00 65 6E 67 06 00 93 03 E5 00 00 39 C6 8A 97") ≡ 0
  -- N4: mode 0x3F has an even length
  pub n4 : check (hex "C3 30 17 00 65 6E 67 06 01 00 12 34 03 3F 01 41 00 93 03 E5 00 00 9D 86 03 3E") ≡ 10
  -- N5: a reserved mode is refused; a reserved format effector, of one byte or with parameters, is not
  pub n5 : check (hex "C3 30 17 00 65 6E 67 06 01 00 12 34 03 07 01 41 00 93 03 E5 00 00 3B 0B 2C 6C") ≡ 10
  pub n5_effectors : check (hex "C3 30 1B 00 65 6E 67 06 01 00 12 34 07 89 FF 01 05 00 01 41 00 93 03 E5 00 00 1F 57 93 EF") ≡ 0
  -- N6: format effectors may stand in a name
  pub n6 : check (hex "C3 30 1C 00 65 6E 67 06 01 00 12 34 08 80 A0 02 11 12 00 01 41 00 93 03 E5 00 00 C8 AC BC C0") ≡ 0
  -- N7: characters aren't looked at; a block of length 0 is good
  pub n7 : check (hex "C3 30 19 00 65 6E 67 06 01 00 12 34 05 00 03 00 7F 80 00 93 03 E5 00 00 F9 0B A1 88") ≡ 0
  pub n7_empty : check (hex "C3 30 16 00 65 6E 67 06 01 00 12 34 02 00 00 00 93 03 E5 00 00 7A 5D CD 65") ≡ 0
  -- N9: FF FF FF is a language like others, no wild card; "ENG" is another than "eng"
  pub n9 : (offered (fresh 0 english) (replicate 40960 0) (hex "C3 30 0F 00 FF FF FF 06 00 93 03 E5 00 00 50 4A 4A A0")).answer ≡ right OtherMap
  pub n9_case : (offered (fresh 0 english) (replicate 40960 0) (hex "C3 30 0F 00 45 4E 47 06 00 93 03 E5 00 00 08 39 38 9C")).answer ≡ right OtherMap
  -- N10: all bytes of the name are the label, mode and length too; the fallback's bytes are as they are lent, no text or none at all
  pub n10 : label_bytes (hex "00 12 34 03 00 01 41") [] (right (label_of (some (record { row = name_is "00 12 34 03 00 01 41"; at = 0 })))) ≡ hex "00 01 41"
  pub n10_fallback : map (λ lent. label_bytes [] lent (right Labelled.Fallback)) (hex "07" ∷ [] ∷ []) ≡ hex "07" ∷ [] ∷ []
  -- N12: number 0 is a number like others
  pub n12 : is_name 0 0 (name_is "00 00 00 03 00 01 41") ≡ true
  -- N13: a channel that doesn't tune has a label, here one without a carrier reference (T4)
  pub n13 : channel_label (fresh 0 english) [] (some (channel_is "00 03 00 12 34 00 00 03 01")) ≡ right Labelled.Fallback
  -- 14 comes before 15; of live names a place that doesn't read is 16, of names that are only gathered none is looked at
  pub n13_order : map (labelled (fresh 0 english) (replicate 40960 0)) (4095 ∷ 4096 ∷ []) ≡ wrong 15 ∷ wrong 14 ∷ []
  pub n13_names : names_read (with_names live5) (replicate 40960 0) ∷ names_read (with_names (holding5 0x01)) (replicate 40960 0) ∷ [] ≡ false ∷ true ∷ []
  -- N14: the first record with the flag and the number, both: the third of four, which stands at 25 of its place
  pub n14 :
      channel_label (with_names live5)
      (replicate 32768 0 ++ hex "C3 30 2F 00 65 6E 67 06 04 00 12 34 03 00 01 41 00 80 12 35 03 00 01 42 00 80"
      ++ hex "12 34 03 00 01 43 00 80 12 34 03 00 01 44 00 93 03 E5 00 00 85 E8 04 95")
      (some (channel_is "00 03 80 12 34 00 00 00 00"))
      ≡ right (Labelled.Named 32797 3)
  -- N15: ntt stands between dcm and channels; the C question answers 0 to names of any language
  pub n15 :
      heading (fresh 7 english) 1 2 3
      ≡ text "lineup=1\nmap=7\nsections=1\nrefused=2\ncds=none\nmms=none\nvcm=none\ndcm=none\nntt=none\nchannels=3\n"
  pub n15_language : check (hex "C3 30 0F 00 FF FF FF 06 00 93 03 E5 00 00 50 4A 4A A0") ≡ 0
  -- N17: a format effector with a parameter length of 0 is good, and so is a name of one-byte effectors alone
  pub n17 : check (hex "C3 30 16 00 65 6E 67 06 01 00 12 34 02 A0 00 00 93 03 E5 00 00 5C 2D CA 77") ≡ 0
  pub n17_alone : check (hex "C3 30 15 00 65 6E 67 06 01 00 12 34 01 40 00 93 03 E5 00 00 8F D3 87 C3") ≡ 0

pub readings : Readings
unfolding computed
readings =
    record {
      a1 = refl;
      a2 = refl;
      a3 = refl;
      a4 = refl;
      a5 = refl;
      a6 = refl;
      a7 = refl;
      a8 = refl;
      a8_vcm = refl;
      a9 = refl;
      a10 = refl;
      a10_later = refl;
      a11 = refl;
      a12 = refl;
      a13 = refl;
      a14 = refl;
      a14_system = refl;
      a14_format = refl;
      a15 = refl;
      a15_zeros = refl;
      a16 = refl;
      a16_channel = refl;
      a17 = refl;
      a18 = refl;
      a18_none = refl;
      a20 = refl;
      a21 = refl;
      a21_empty = refl;
      a22 = refl;
      a22_version = refl;
      a22_zeros = refl;
      a23 = refl;
      a24 = refl;
      a27 = refl;
      b1 = refl;
      b2 = refl;
      b3 = refl;
      b8 = refl;
      b9 = refl;
      b10 = refl;
      places = refl;
      places_all = refl;
      missing = refl;
      missing_two = refl;
      missing_one = refl;
      t1 = refl;
      t2 = refl;
      t3 = refl;
      t4 = refl;
      t6 = refl;
      t7 = refl;
      t10 = refl;
      t11 = refl;
      t16 = refl;
      t17 = refl;
      d1 = refl;
      d1_analogue = refl;
      d3 = refl;
      d4 = refl;
      d5 = refl;
      d6 = refl;
      e1 = refl;
      e1_none = refl;
      e2 = refl;
      e3 = refl;
      e3_part = refl;
      e3_record = refl;
      n1 = refl;
      n1_short = refl;
      n2 = refl;
      n2_count = refl;
      n3 = refl;
      n3_count = refl;
      n4 = refl;
      n5 = refl;
      n5_effectors = refl;
      n6 = refl;
      n7 = refl;
      n7_empty = refl;
      n9 = refl;
      n9_case = refl;
      n10 = refl;
      n10_fallback = refl;
      n12 = refl;
      n13 = refl;
      n13_order = refl;
      n13_names = refl;
      n14 = refl;
      n15 = refl;
      n15_language = refl;
      n17 = refl;
      n17_alone = refl;
    }
