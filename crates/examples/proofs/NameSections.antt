-- Request 2026-01, "the Network Text Table, 0xC3, source name subtable 6": what a section of names says, field by field, and its refusals 4 to 11, computed.
-- Every clause stands on both sides of its border, with its reading. (The text rule: NameTexts.antt. The language: HoldingClauses.antt. Labels:
-- LabelClauses.antt.)
use Prim.Native.Nat.{ℕ}
use mathlib.Core.Path.{◌≡◌, refl}
use mathlib.Core.Bool.{true}
use mathlib.Core.List.{List, [], ◌∷◌, ◌++◌, map}
use mathlib.Core.Option.{none, some}
use lib.ListN.{length, replicate}
use Rattle.rules.specs.Bytes.{refused, got}
use Rattle.rules.specs.Layout.{Numbered, taken}
use Rattle.rules.specs.Tables.{Name, ntt_head, name_zeros, name_of, name_fair}
use Rattle.rules.specs.Form.{Front, form}
use Rattle.rules.specs.Section.{Structure, right, read_section, check, read_as, ask}
use Rattle.rules.specs.declared.Table.TheVariants.{Ntt}
use Rattle.rules.specs.declared.Language.{Language}
use Rattle.rules.proofs.Hex.{hex}
use Rattle.rules.proofs.Computed.{computed}
use Rattle.examples.proofs.Plants.{plant_ntt, names_plain, names_grown}
use Rattle.examples.proofs.Sweeps.{swept, sweep, answered, counting, as_number, halves, holding}
use Rattle.examples.proofs.HoldingClauses.{eng, speech, names_high}
use Rattle.examples.proofs.SectionFields.{meant_by}
use Rattle.examples.proofs.SectionOrder.{body}
use Rattle.examples.proofs.SectionRefusals.{bits_of, cuts_of, short_of}
use Rattle.examples.proofs.NameTexts.{reserved}
use Rattle.rules.specs.Section.{part}
use Rattle.std.specs.Prelude.{Some, None}

-- ---- what a section of names says

abbrev pub spoken_front : Language → (count : ℕ) → Front
spoken_front language count =
    record { map = 0; language = language; first = 0; count = count; included = 0; splice = 0; time = 0 }

-- a name record takes no index
abbrev pub name : (application number : ℕ) → List ℕ → Numbered Name
name application number text =
    record { index = 0; what = record { application = application; number = number; name = text } }

abbrev pub names : Language → List (Numbered Name) → Structure
names language rs =
    record {
      front = spoken_front language (length rs);
      lists = record { carriers = []; modes = []; channels = []; ranges = []; names = rs };
    }

abbrev plant_names : List (Numbered Name)
plant_names =
    name 0 0x0506 (hex "00 01 51")
    ∷ name 1 0x0304 (hex "00 01 52")
    ∷ name 0 0x0304 (hex "80 3F 02 4E 2D 9F")
    ∷ name 1 0x0506 (hex "00 02 41 42")
    ∷ name 0 0x0304 (hex "00 01 53")
    ∷ []

-- ---- sections without their CRC

-- in English, behind their record count; and with one record
abbrev pub spoken : List ℕ → List ℕ
spoken more = hex "C3 30 00 00 65 6E 67 06" ++ more

abbrev pub one : List ℕ → List ℕ
one r = spoken (1 ∷ r)

-- one with its descriptor count and the closing list
abbrev pub closed : List ℕ → List ℕ
closed r = one (r ++ hex "00 93 03 E5 00 00")

-- with one byte left open: of medium and subtype; of the language, the same three times
abbrev pub named_by : ℕ → List ℕ
named_by b = hex "C3 30 00 00 65 6E 67" ++ (b ∷ hex "00 93 03 E5 00 00")

abbrev pub in_language : ℕ → List ℕ
in_language b = hex "C3 30 00 00" ++ (b ∷ b ∷ b ∷ hex "06 00 93 03 E5 00 00")

-- a record with a name of one character, and one more with a descriptor behind it; a descriptor in front of the revision
abbrev pub names_body : List ℕ
names_body = spoken (hex "02 00 12 34 03 00 01 41 00 80 12 34 01 40 01 80 01 AA 80 00 93 03 E5 00 00")

pub record NameSections : Type 0 where
  -- ---- whole sections, with their CRC
  -- what it reads as: language, then each record with its application bit, its number and all bytes of its name, in their order; no first index, and no record
  -- takes one; descriptors, also of tag 0x93, are passed over
  pub reads_names :
      read_section plant_ntt
      ≡ right
      (record {
        table = Ntt;
        structure = names eng plant_names;
        closing = record { tag = 0x93; body = hex "E5 00 00" } ∷ [];
        revision = record { version = 5; number = 0; last = 0 };
      })
  pub means_names :
      meant_by (read_section plant_ntt)
      ≡ some (record { table = Ntt; map = 0; language = eng; first = 0; splice = 0; time = 0; lists = (names eng plant_names).lists })
  -- grown it means the same
  pub means_grown : meant_by (read_section names_grown) ≡ meant_by (read_section names_plain)
  pub head_names :
      read_as plant_ntt (read_section plant_ntt)
      ≡ right (record { table = Ntt; map = 0; language = eng; revision = record { version = 5; number = 0; last = 0 }; closing = 58 })
  -- the descriptor question looks at the closing list alone
  pub asked_names :
      map (λ tag. ask tag names_grown) (0x93 ∷ 0x81 ∷ 0x80 ∷ 0x82 ∷ [])
      ≡ right (Some (part 38 5)) ∷ right (Some (part 36 0)) ∷ right None ∷ right None ∷ []
  -- the C question answers 0 in any language (readings, Q15): here "eng", "ENG", FF FF FF and 00 00 00; record count 0 is good (Q3)
  pub right_ones :
      map check
      (plant_ntt
      ∷ names_plain
      ∷ names_grown
      ∷ hex "C3 30 0F 00 65 6E 67 06 00 93 03 E5 00 00 39 C6 8A 97"
      ∷ hex "C3 30 0F 00 45 4E 47 06 00 93 03 E5 00 00 08 39 38 9C"
      ∷ hex "C3 30 0F 00 FF FF FF 06 00 93 03 E5 00 00 50 4A 4A A0"
      ∷ hex "C3 30 0F 00 00 00 00 06 00 93 03 E5 00 00 CD F1 88 D1"
      ∷ [])
      ≡ 0 ∷ 0 ∷ 0 ∷ 0 ∷ 0 ∷ 0 ∷ 0 ∷ []
  -- 5 before 6, and 6 before 7: another byte in the language, in a name; protocol versions 1 and 31
  pub five_names :
      map check
      (hex "C3 30 0F 00 65 6E 68 06 00 93 03 E5 00 00 39 C6 8A 97"
      ∷ hex "C3 30 20 01 65 6E 67 06 02 00 12 34 03 00 01 42 00 80 12 34 01 40 01 80 01 01 93 03 E5 00 00 85 CA C3 49"
      ∷ [])
      ≡ 5 ∷ 5 ∷ []
  pub six_names :
      map check (hex "C3 30 0F 01 65 6E 67 06 00 93 03 E5 00 00 C0 6A 0D 79" ∷ hex "C3 30 0F 1F 65 6E 67 05 00 93 03 E5 00 00 7C 5E 32 68" ∷ []) ≡ 6 ∷ 6 ∷ []
  -- a section of 8 to 11 bytes has no byte 7: 8 (Q1), also with zero bits wrong in bytes 1 and 3, which are 9 where byte 7 is there
  pub eight_short :
      map check
      (hex "C3 30 05 00 61 24 7A B8"
      ∷ hex "C3 30 06 00 65 35 17 3B 55"
      ∷ hex "C3 30 07 00 65 6E 98 8A AF D1"
      ∷ hex "C3 30 08 00 65 6E 67 81 52 BD A6"
      ∷ [])
      ≡ 8 ∷ 8 ∷ 8 ∷ 8 ∷ []
  pub eight_before_nine :
      map check
      (hex "C3 70 05 20 8F 2C ED 98"
      ∷ hex "C3 70 06 20 65 C4 A7 9D 26"
      ∷ hex "C3 70 07 20 65 6E A5 55 3C 6F"
      ∷ hex "C3 70 08 20 65 6E 67 BB 3E E8 E5"
      ∷ hex "C3 70 09 20 65 6E 67 06 A9 33 E3 D5"
      ∷ [])
      ≡ 8 ∷ 8 ∷ 8 ∷ 8 ∷ 9 ∷ []
  -- ---- refusal 7: byte 7 is medium and subtype, and 6 alone is named; before 9. Bytes 4 to 6 may be any
  pub seven_names : sweep 256 (λ n. body (named_by n)) ≡ replicate 6 7 ++ (0 ∷ replicate 249 7)
  pub seven_before_nine : body (hex "C3 70 00 20 06 06 06 00") ≡ 7
  pub any_language : sweep 256 (λ n. body (in_language n)) ≡ replicate 256 0
  -- ---- the header ends behind byte 7, and the record count is a head of its own (Q1): with a zero bit wrong and the count cut it is 9, not 8
  pub order_head :
      map body
      (hex "C3 40 00 00 65 6E 67 06"
      ∷ hex "C3 80 00 00 65 6E 67 06"
      ∷ hex "C3 00 00 20 65 6E 67 06"
      ∷ hex "C3 30 00 00 65 6E 67 06"
      ∷ [])
      ≡ 9 ∷ 9 ∷ 9 ∷ 8 ∷ []
  pub header_names : (form Ntt).header.look (hex "1F FF FE FD 06") ≡ spoken_front (speech 0xFF 0xFE 0xFD) 0
  pub header_bits : sweep 256 (λ b. as_number ((form Ntt).header.zeros (b ∷ []))) ≡ holding 32 224 1
  -- the head is one byte, all of it the count
  pub head_size : map (taken ntt_head (λ n. true)) ([] ∷ hex "80" ∷ hex "FF 41" ∷ []) ≡ refused 8 ∷ got 0x80 [] ∷ got 0xFF (hex "41") ∷ []
  -- ---- refusal 8: cut at every length; and of 8 to 19 bytes with the CRC, zeros behind the header
  pub eight_names : cuts_of 8 names_body ≡ counting 0 26 ++ (27 ∷ counting 29 4)
  pub lengths_names : short_of "C3 30 00 00 65 6E 67 06" ≡ 8 ∷ 8 ∷ 8 ∷ 8 ∷ 8 ∷ 11 ∷ 8 ∷ 11 ∷ 8 ∷ 11 ∷ 8 ∷ 11 ∷ []
  -- ---- refusal 9: of both records the seven bits behind the application bit, and of the header those that every section has
  pub nine_names : bits_of 9 22 names_body ≡ 8 ∷ 9 ∷ 24 ∷ 25 ∷ 26 ∷ counting 73 7 ++ counting 137 7
  -- ---- a record is taken whole (Q2): 8 if any of it runs into the CRC, the flag byte, the number, the length, the name; then 9 for its zero bits; then 10
  pub order_names :
      map (λ r. body (one r))
      ([]
      ∷ hex "7F"
      ∷ hex "7F 12"
      ∷ hex "7F 12 34"
      ∷ hex "7F 12 34 02"
      ∷ hex "7F 12 34 02 07"
      ∷ hex "7F 12 34 02 07 00"
      ∷ hex "00 12 34 02 07 00"
      ∷ hex "00 12 34 02 06 00"
      ∷ hex "00 12 34 02 06 00 00"
      ∷ [])
      ≡ 8 ∷ 8 ∷ 8 ∷ 8 ∷ 8 ∷ 8 ∷ 9 ∷ 10 ∷ 8 ∷ 11 ∷ []
  -- 9 before 10, each of the zero bits with a name that is no text; and with one that is
  pub nine_before_ten :
      (sweep 256 (λ b. body (closed (b ∷ hex "12 34 00"))) ≡ 10 ∷ replicate 127 9 ++ (10 ∷ replicate 127 9))
      × (sweep 256 (λ b. body (closed (b ∷ hex "12 34 01 40"))) ≡ 0 ∷ replicate 127 9 ++ (0 ∷ replicate 127 9))
  -- ---- refusal 10: text that breaks 7.1. Name length 0 (Q3); a reserved mode and no other; an odd length of 16 bits; blocks that don't fill the name, also
  -- where bytes that would fill it follow, or that pass its end
  pub ten_names :
      map (λ r. body (closed r))
      (hex "00 12 34 00"
      ∷ hex "00 12 34 01 40"
      ∷ hex "00 12 34 01 00"
      ∷ hex "00 12 34 03 3F 01 41"
      ∷ hex "00 12 34 04 3F 02 4E 2D"
      ∷ hex "00 12 34 03 00 02 41"
      ∷ hex "00 12 34 03 00 00 41"
      ∷ hex "00 12 34 03 00 00 00"
      ∷ [])
      ≡ 10 ∷ 0 ∷ 10 ∷ 10 ∷ 0 ∷ 10 ∷ 0 ∷ 10 ∷ []
  pub ten_reserved : answered (λ m. body (closed (hex "00 12 34 04" ++ (m ∷ hex "02 00 9F")))) 10 256 ≡ reserved
  -- of the second record too, and before the descriptor count behind it; number and application are not judged
  pub ten_second : map (λ r. body (spoken (hex "02 00 12 34 01 40 00" ++ r))) (hex "00 12 34 00" ∷ hex "00 12 34 01 40" ∷ []) ≡ 10 ∷ 8 ∷ []
  pub any_number :
      map (λ r. body (closed r)) (hex "00 00 00 01 40" ∷ hex "80 00 00 01 40" ∷ hex "80 FF FF 01 40" ∷ []) ≡ 0 ∷ 0 ∷ 0 ∷ []
  -- name length is all eight bits: 255 bytes, and the descriptor count is the byte behind them
  pub longest : map (λ n. body (closed (hex "00 12 34 FF 00 FD" ++ replicate n 0x41))) (252 ∷ 253 ∷ 254 ∷ []) ≡ 8 ∷ 0 ∷ 8 ∷ []
  -- fields of ones, and each bit over all values of its byte
  pub ones_name : name_of (hex "FF FF FE 03 01 02 03") ≡ record { application = 1; number = 0xFFFE; name = hex "01 02 03" }
  pub every_application :
      (sweep 256 (λ b. (name_of (b ∷ [])).application) ≡ halves 128 1) × (sweep 256 (λ b. as_number (name_zeros (b ∷ []))) ≡ holding 1 127 2)
  -- at whatever index: its text alone is judged
  pub fair_names :
      (map (λ index. as_number (name_fair index (name_of (hex "00 12 34 02 00 00")))) (0 ∷ 256 ∷ []) ≡ 1 ∷ 1 ∷ [])
      × (map (λ index. as_number (name_fair index (name_of (hex "00 12 34 00")))) (0 ∷ 256 ∷ []) ≡ 0 ∷ 0 ∷ [])
  -- ---- behind every record stands a descriptor count, also behind the first of several: it isn't there; fewer descriptors than it says; one that ends at
  -- the CRC, and one that runs into it by a byte
  pub order_lists :
      map (λ r. body (one (hex "00 12 34 01 40" ++ r)))
      ([]
      ∷ hex "00"
      ∷ hex "01"
      ∷ hex "01 80"
      ∷ hex "01 80 01"
      ∷ hex "01 80 01 FF"
      ∷ hex "02 80 01 FF"
      ∷ hex "02 80 01 FF 93 00 93 03 E5 00 00"
      ∷ [])
      ≡ 8 ∷ 11 ∷ 8 ∷ 8 ∷ 8 ∷ 11 ∷ 8 ∷ 0 ∷ []
  pub always_counted :
      map (λ r. body (spoken (2 ∷ r)))
      (hex "00 12 34 01 40 00 80 12 34 01 40 00 93 03 E5 00 00"
      ∷ hex "00 12 34 01 40 01 80 01 FF 80 12 34 01 40 00 93 03 E5 00 00"
      ∷ hex "00 12 34 01 40 80 12 34 01 40 00 93 03 E5 00 00"
      ∷ hex "00 12 34 01 40 00 80 12 34 01 40 93 03 E5 00 00"
      ∷ [])
      ≡ 0 ∷ 0 ∷ 8 ∷ 8 ∷ []
  pub record_tags : sweep 256 (λ tag. body (one (hex "00 12 34 01 40 01" ++ (tag ∷ hex "00 93 03 E5 00 00")))) ≡ replicate 256 0
  -- so many records and no more: of two, with a count of 0, 1, 2 and 3
  pub order_count :
      map (λ (n : ℕ). body (spoken (n ∷ hex "00 12 34 01 40 00 80 12 34 01 40 00 93 03 E5 00 00"))) (0 ∷ 1 ∷ 2 ∷ 3 ∷ []) ≡ 8 ∷ 8 ∷ 0 ∷ 9 ∷ []
  -- ---- refusal 11, judged last: absent, also where it stands in a record's list; twice; body below 3 bytes; number above last
  pub eleven_names :
      map (λ list. body (one (hex "00 12 34 01 40" ++ list)))
      (hex "00 80 03 E5 00 00"
      ∷ hex "01 93 03 E5 00 00"
      ∷ hex "00 93 03 E5 00 00 93 03 E5 00 00"
      ∷ hex "00 93 02 E5 00"
      ∷ hex "00 93 03 E5 01 00"
      ∷ hex "00 93 03 E5 01 01"
      ∷ hex "00 80 01 FF 93 04 E5 00 01 FF 81 00"
      ∷ hex "00 93 03 E5 01 00 80"
      ∷ [])
      ≡ 11 ∷ 11 ∷ 11 ∷ 11 ∷ 11 ∷ 0 ∷ 0 ∷ 8 ∷ []
  -- the revision is the section's: version, number and last
  pub revision_names :
      read_as names_high (read_section names_high)
      ≡ right (record { table = Ntt; map = 0; language = eng; revision = record { version = 6; number = 1; last = 1 }; closing = 9 })

pub name-sections : NameSections
unfolding computed swept
name-sections =
    record {
      reads_names = refl;
      means_names = refl;
      means_grown = refl;
      head_names = refl;
      asked_names = refl;
      right_ones = refl;
      five_names = refl;
      six_names = refl;
      eight_short = refl;
      eight_before_nine = refl;
      seven_names = refl;
      seven_before_nine = refl;
      any_language = refl;
      order_head = refl;
      header_names = refl;
      header_bits = refl;
      head_size = refl;
      eight_names = refl;
      lengths_names = refl;
      nine_names = refl;
      order_names = refl;
      nine_before_ten = (refl, refl);
      ten_names = refl;
      ten_reserved = refl;
      ten_second = refl;
      any_number = refl;
      longest = refl;
      ones_name = refl;
      every_application = (refl, refl);
      fair_names = (refl, refl);
      order_lists = refl;
      always_counted = refl;
      record_tags = refl;
      order_count = refl;
      eleven_names = refl;
      revision_names = refl;
    }
