-- Growth is no empty word: of each table a section and one that it may grow into, with descriptors put into its closing list and, where
-- its records have lists, into those; a longer revision descriptor and other reserved bits; in one, other bodies of descriptors that the box
-- doesn't know; and the example plant, grown whole. By computation.
use Prim.Native.Nat.{ℕ}
use Prim.Native.String.{String}
use native.Mathlib.Omega.{arith}
use mathlib.Core.Path.{◌≡◌, refl}
use mathlib.Core.Option.{Option}
use mathlib.Core.List.{List, [], ◌∷◌, ◌++◌, map}
use Rattle.rules.specs.Descriptors.{Descriptor}
use Rattle.rules.specs.Form.{form}
use Rattle.rules.specs.Section.{Structure, Content}
use Rattle.rules.specs.Parts.{Piece, Parts, Shaped, Fair}
use Rattle.rules.specs.Parts as Parts
use Rattle.rules.specs.Growth.{empty, kept, added, SameRevision, GrownRevision, GrownDescriptor, stays, other, revised, end, next}
use Rattle.rules.specs.Growth.{GrownParts, Grown, GrownRun, grown, Told, told, Untouched, OtherProtocol}
use Rattle.rules.specs.Growth
use Rattle.rules.specs.declared.Table.{Table}
use Rattle.rules.specs.declared.Table.TheVariants.{Cds, Mms, Vcm, Dcm, Ntt}
use Rattle.rules.specs.declared.Signal.TheVariants.{Digital}
use Rattle.rules.proofs.Hex.{hex}
use Rattle.rules.proofs.Computed.{computed}
use Rattle.rules.proofs.Truths.{differ, unlike}
use Rattle.rules.proofs.Examples.{modes, channels, ranges, c1_content, c7_ranges, c12_mode}
use Rattle.examples.proofs.Plants.{example_plant, d, p, carriers_plain, parts, channel1, two_records, names_plain, names_grown}
use Rattle.examples.proofs.HoldingClauses.{eng}
use Rattle.examples.proofs.NameSections.{name, names}
use Rattle.examples.proofs.GrowthLimits.{grown_list}
use Rattle.rules.specs.Section.{part}
use Rattle.rules.specs.Refusals.{wrong, right}
use Rattle.std.specs.Prelude.{Some, None}

-- what a section of version 5, 0 of 0, for map 0 reads as
abbrev said : Table → Structure → List Descriptor → Content
said t structure closing =
    record { table = t; structure = structure; closing = closing; revision = record { version = 5; number = 0; last = 0 } }

-- the record of C9, with or without lists behind the records
abbrev c9_channels : (included : ℕ) → Structure
c9_channels included =
    channels 0 included 0 0
    (record { index = 0; what = record { number = 3; application = 0; path = 0; kind = 0; source = 0x1234; carrier = 2; signal = Digital 3 1 } } ∷ [])

abbrev carriers_grown : List ℕ
carriers_grown = hex "C2 00 20 00 01 01 01 02 80 30 81 C8 02 93 00 80 01 AA 81 00 93 05 05 00 00 AA BB C0 02 01 02 7D BB 44 30"

abbrev modes_plain : List ℕ
modes_plain = hex "C2 30 14 00 01 01 02 2F 08 00 4D 29 AD 00 93 03 E5 00 00 CE 5B B1 EE"

abbrev modes_grown : List ℕ
modes_grown = hex "C2 10 1D 00 01 01 02 2F 08 00 4D 29 AD 01 80 03 AA BB CC 93 04 45 00 00 77 81 01 01 4F 11 24 AA"

abbrev ranges_plain : List ℕ
ranges_plain = hex "C4 30 13 00 01 00 00 00 02 03 83 05 81 93 03 E5 00 00 90 74 69 2E"

abbrev ranges_grown : List ℕ
ranges_grown = hex "C4 20 17 00 01 00 00 00 02 03 83 05 81 80 01 AA 93 04 65 00 00 01 16 10 DA D5"

abbrev channels_plain : List ℕ
channels_plain = hex "C4 30 1D 00 00 00 00 00 00 00 00 00 00 01 00 03 00 12 34 02 00 03 01 93 03 E5 00 00 43 E6 31 47"

abbrev channels_grown : List ℕ
channels_grown = hex "C4 00 23 00 00 00 00 00 00 00 00 00 00 01 00 03 00 12 34 02 00 03 01 80 00 80 01 AA 93 04 25 00 00 FF 23 E1 2E C3"

abbrev included_plain : List ℕ
included_plain = hex "C4 30 27 00 00 00 00 20 00 00 00 00 00 01 00 03 00 12 34 02 00 03 01 01 94 04 FC 03 FC 01 81 01 01 93 03 E5 00 00 E0 06 CD 53"

abbrev included_grown : List ℕ
included_grown =
    hex "C4 00 32 00 00 00 00 20 00 00 00 00 00 01 00 03 00 12 34 02 00 03 01 03 82 00 94 04 00 03 00 01 93 02 00 00 81 02 FF 01 82 00"
    ++ hex "93 05 05 00 00 01 02 E9 52 39 33"

-- parts of a section: bytes 0 to 2, the rest of the header, the head, the records, the closing list
abbrev cut : (number flags low : ℕ) → (header head : String) → List Piece → List Descriptor → Parts
cut number flags low header head pieces closing =
    record { number = number; flags = flags; low = low; header = hex header; head = hex head; pieces = pieces; closing = closing }

-- the revision descriptor of version 5, 0 of 0, and one that it may grow into
revision : (body : String) → SameRevision (hex "E5 00 00") (hex body) → GrownDescriptor (d 0x93 "E5 00 00") (d 0x93 body)
revision body same = revised (record { was = refl; is = refl; same = same })

pub carriers-grow : Grown carriers_plain carriers_grown
unfolding computed
carriers-grow =
    record {
      content = c1_content (d 0x93 "E5 00 00" ∷ []) (record { version = 5; number = 0; last = 0 });
      reads = refl;
      before = cut 0xC2 0x30 0x13 "00 01 01 01" "" (p "02 80 30 81 C8" [] ∷ []) (d 0x93 "E5 00 00" ∷ []);
      after =
          cut 0xC2 0x00 0x20 "00 01 01 01" "" (p "02 80 30 81 C8" (d 0x93 "" ∷ d 0x80 "AA" ∷ []) ∷ [])
          (d 0x81 "" ∷ d 0x93 "05 00 00 AA BB" ∷ d 0xC0 "01 02" ∷ []);
      was = refl;
      is = refl;
      shaped = record { header = refl; head = refl; sized = (refl, λ e. absurd (differ e), tt); count = refl };
      reshaped = record { header = refl; head = refl; sized = (refl, λ e. absurd (differ e), tt); count = refl };
      grows =
          record {
            number = refl;
            zeros = refl;
            header = refl;
            head = refl;
            pieces = next refl (added (d 0x93 "") tt (added (d 0x80 "AA") tt empty)) end;
            closing =
                added (d 0x81 "") (λ e. omega (arith, e))
                (kept (revision "05 00 00 AA BB" (record { long = omega arith; longer = omega arith; version = refl; number = refl; last = refl }))
                (added (d 0xC0 "01 02") (λ e. omega (arith, e)) empty));
          };
      fits = refl;
      crc = refl;
    }

pub modes-grow : Grown modes_plain modes_grown
unfolding computed
modes-grow =
    record {
      content = said Mms (modes 1 (record { index = 1; what = c12_mode } ∷ [])) (d 0x93 "E5 00 00" ∷ []);
      reads = refl;
      before = cut 0xC2 0x30 0x14 "00 01 01 02" "" (p "2F 08 00 4D 29 AD" [] ∷ []) (d 0x93 "E5 00 00" ∷ []);
      after = cut 0xC2 0x10 0x1D "00 01 01 02" "" (p "2F 08 00 4D 29 AD" (d 0x80 "AA BB CC" ∷ []) ∷ []) (d 0x93 "45 00 00 77" ∷ d 0x81 "01" ∷ []);
      was = refl;
      is = refl;
      shaped = record { header = refl; head = refl; sized = (refl, λ e. absurd (differ e), tt); count = refl };
      reshaped = record { header = refl; head = refl; sized = (refl, λ e. absurd (differ e), tt); count = refl };
      grows =
          record {
            number = refl;
            zeros = refl;
            header = refl;
            head = refl;
            pieces = next refl (added (d 0x80 "AA BB CC") tt empty) end;
            closing =
                kept (revision "45 00 00 77" (record { long = omega arith; longer = omega arith; version = refl; number = refl; last = refl }))
                (added (d 0x81 "01") (λ e. omega (arith, e)) empty);
          };
      fits = refl;
      crc = refl;
    }

pub ranges-grow : Grown ranges_plain ranges_grown
unfolding computed
ranges-grow =
    record {
      content = said Dcm (ranges 0 2 c7_ranges) (d 0x93 "E5 00 00" ∷ []);
      reads = refl;
      before = cut 0xC4 0x30 0x13 "00 01 00 00" "00 02 03" (p "83" [] ∷ p "05" [] ∷ p "81" [] ∷ []) (d 0x93 "E5 00 00" ∷ []);
      after = cut 0xC4 0x20 0x17 "00 01 00 00" "00 02 03" (p "83" [] ∷ p "05" [] ∷ p "81" [] ∷ []) (d 0x80 "AA" ∷ d 0x93 "65 00 00 01" ∷ []);
      was = refl;
      is = refl;
      shaped = record { header = refl; head = refl; sized = (refl, λ e. refl, (refl, λ e. refl, (refl, λ e. refl, tt))); count = refl };
      reshaped = record { header = refl; head = refl; sized = (refl, λ e. refl, (refl, λ e. refl, (refl, λ e. refl, tt))); count = refl };
      grows =
          record {
            number = refl;
            zeros = refl;
            header = refl;
            head = refl;
            pieces = next refl empty (next refl empty (next refl empty end));
            closing =
                added (d 0x80 "AA") (λ e. omega (arith, e))
                (kept (revision "65 00 00 01" (record { long = omega arith; longer = omega arith; version = refl; number = refl; last = refl })) empty);
          };
      fits = refl;
      crc = refl;
    }

pub channels-grow : Grown channels_plain channels_grown
unfolding computed
channels-grow =
    record {
      content = said Vcm (c9_channels 0) (d 0x93 "E5 00 00" ∷ []);
      reads = refl;
      before = cut 0xC4 0x30 0x1D "00 00 00 00" "00 00 00 00 00 00 01" (channel1 []) (d 0x93 "E5 00 00" ∷ []);
      after = cut 0xC4 0x00 0x23 "00 00 00 00" "00 00 00 00 00 00 01" (channel1 []) (d 0x80 "" ∷ d 0x80 "AA" ∷ d 0x93 "25 00 00 FF" ∷ []);
      was = refl;
      is = refl;
      shaped = record { header = refl; head = refl; sized = (refl, λ e. refl, tt); count = refl };
      reshaped = record { header = refl; head = refl; sized = (refl, λ e. refl, tt); count = refl };
      grows =
          record {
            number = refl;
            zeros = refl;
            header = refl;
            head = refl;
            pieces = next refl empty end;
            closing =
                added (d 0x80 "") (λ e. omega (arith, e))
                (added (d 0x80 "AA") (λ e. omega (arith, e))
                (kept (revision "25 00 00 FF" (record { long = omega arith; longer = omega arith; version = refl; number = refl; last = refl })) empty));
          };
      fits = refl;
      crc = refl;
    }

pub included-grow : Grown included_plain included_grown
unfolding computed
included-grow =
    record {
      content = said Vcm (c9_channels 1) (d 0x81 "01" ∷ d 0x93 "E5 00 00" ∷ []);
      reads = refl;
      before = cut 0xC4 0x30 0x27 "00 00 00 00" "20 00 00 00 00 00 01" (channel1 (d 0x94 "FC 03 FC 01" ∷ [])) (d 0x81 "01" ∷ d 0x93 "E5 00 00" ∷ []);
      after =
          cut 0xC4 0x00 0x32 "00 00 00 00" "20 00 00 00 00 00 01" (channel1 (d 0x82 "" ∷ d 0x94 "00 03 00 01" ∷ d 0x93 "00 00" ∷ []))
          (d 0x81 "FF 01" ∷ d 0x82 "" ∷ d 0x93 "05 00 00 01 02" ∷ []);
      was = refl;
      is = refl;
      shaped = record { header = refl; head = refl; sized = (refl, λ e. absurd (differ e), tt); count = refl };
      reshaped = record { header = refl; head = refl; sized = (refl, λ e. absurd (differ e), tt); count = refl };
      grows =
          record {
            number = refl;
            zeros = refl;
            header = refl;
            head = refl;
            pieces = next refl (added (d 0x82 "") tt (kept refl (added (d 0x93 "00 00") tt empty))) end;
            closing =
                kept {d = d 0x81 "01"} {e = d 0x81 "FF 01"} (other (λ e. omega (arith, e)) refl)
                (added (d 0x82 "") (λ e. omega (arith, e))
                (kept (revision "05 00 00 01 02" (record { long = omega arith; longer = omega arith; version = refl; number = refl; last = refl })) empty));
          };
      fits = refl;
      crc = refl;
    }

-- names: descriptors into a record's list and into the closing list, another body of one that was there, a longer revision descriptor, other reserved bits
pub names-grow : Grown names_plain names_grown
unfolding computed
names-grow =
    record {
      content =
          said Ntt
          (names eng (name 0 0x1234 (hex "00 01 41") ∷ name 1 0x1234 (hex "40") ∷ []))
          (d 0x93 "E5 00 00" ∷ []);
      reads = refl;
      before =
          cut 0xC3 0x30 0x20 "00 65 6E 67 06" "02" (p "00 12 34 03 00 01 41" [] ∷ p "80 12 34 01 40" (d 0x80 "01" ∷ []) ∷ [])
          (d 0x93 "E5 00 00" ∷ []);
      after =
          cut 0xC3 0x00 0x2C "00 65 6E 67 06" "02"
          (p "00 12 34 03 00 01 41" (d 0x93 "" ∷ d 0x80 "AA" ∷ []) ∷ p "80 12 34 01 40" (d 0x82 "" ∷ d 0x80 "FF FE" ∷ []) ∷ [])
          (d 0x81 "" ∷ d 0x93 "05 00 00 AA BB" ∷ []);
      was = refl;
      is = refl;
      shaped = record { header = refl; head = refl; sized = (refl, λ e. absurd (differ e), (refl, λ e. absurd (differ e), tt)); count = refl };
      reshaped = record { header = refl; head = refl; sized = (refl, λ e. absurd (differ e), (refl, λ e. absurd (differ e), tt)); count = refl };
      grows =
          record {
            number = refl;
            zeros = refl;
            header = refl;
            head = refl;
            pieces =
                next refl (added (d 0x93 "") tt (added (d 0x80 "AA") tt empty))
                (next refl (added (d 0x82 "") tt (kept refl empty)) end);
            closing =
                added (d 0x81 "") (λ e. omega (arith, e))
                (kept (revision "05 00 00 AA BB" (record { long = omega arith; longer = omega arith; version = refl; number = refl; last = refl })) empty);
          };
      fits = refl;
      crc = refl;
    }

-- what parts say: first channel and indices, counting on; and records that are fair, up to index 255
pub parts-say :
    Parts.said (form Dcm) (parts 0xC4 0x30 (hex "00 01 01 02") (hex "00 02 03") (p "83" [] ∷ p "05" [] ∷ p "81" [] ∷ []))
    ≡ ranges 0x0102 2 c7_ranges
unfolding computed
parts-say = refl

pub parts-fair : Fair (form Cds) (two_records 0xFD)
unfolding computed
parts-fair = (refl, refl, (refl, refl, tt))

-- what the descriptor question tells, of a section
pub tells :
    map (told (hex "AA BB CC DD")) (wrong 5 ∷ right None ∷ right (Some (part 1 2)) ∷ [])
    ≡ Told.refused 5 ∷ Told.none ∷ Told.body (hex "BB CC") ∷ []
unfolding computed told
tells = refl

-- a section of another protocol version
pub other-protocol : OtherProtocol (hex "C2 30 0D 01 01 00 01 93 03 E5 00 00 56 DF 59 44")
unfolding computed
other-protocol = record { three = refl; four = refl; five = refl; six = λ e. unlike refl e }

-- a revision descriptor with other reserved bits and a byte more; a list behind a record that has a descriptor count; all reserved bits of byte 1, with the
-- four high bits of L, set and cleared
pub revision-grows : GrownRevision (d 0x93 "E5 01 03") (d 0x93 "05 01 03 AA")
unfolding computed
revision-grows = record { was = refl; is = refl; same = record { long = omega arith; longer = omega arith; version = refl; number = refl; last = refl } }

-- the tags that growth left alone; a grown revision descriptor is none that it changed
pub untouched : Untouched 0x82 grown_list × Untouched 0x93 grown_list
untouched = (
  (λ e. unlike refl e, (λ e. unlike refl e, (λ e. unlike refl e, tt))),
  (λ e. unlike refl e, (λ e. unlike refl e, (λ e. unlike refl e, tt))),
)

pub untouched-revised :
    Untouched 0x93 (kept {d = d 0x93 "E5 01 03"} {e = d 0x93 "05 01 03 AA"} (revised revision-grows) grown_list)
untouched-revised = (λ e. unlike refl e, (λ e. unlike refl e, (λ e. unlike refl e, tt)))

-- a revision descriptor that gets no byte more; a record whose first index is not the count
pub revision-stays : GrownRevision (d 0x93 "E5 01 03") (d 0x93 "05 01 03")
unfolding computed
revision-stays = record { was = refl; is = refl; same = record { long = omega arith; longer = omega arith; version = refl; number = refl; last = refl } }

pub mode-shaped : Shaped (form Mms) (parts 0xC2 0x30 (hex "00 07 01 02") [] (p "2F 08 00 4D 29 AD" [] ∷ []))
unfolding computed
mode-shaped = record { header = refl; head = refl; sized = (refl, λ e. absurd (differ e), tt); count = refl }

pub included-shaped : Shaped (form Vcm) (parts 0xC4 0x30 (hex "00 00 00 00") (hex "20 00 00 00 00 00 01") (channel1 (d 0x80 "" ∷ [])))
unfolding computed
included-shaped = record { header = refl; head = refl; sized = (refl, λ e. absurd (differ e), tt); count = refl }

pub reserved-set : GrownParts (parts 0xC2 0x00 [] [] []) (parts 0xC2 0x3F [] [] [])
unfolding computed
reserved-set = record { number = refl; zeros = refl; header = refl; head = refl; pieces = end; closing = kept (stays refl) empty }

pub reserved-cleared : GrownParts (parts 0xC2 0x3F [] [] []) (parts 0xC2 0x00 [] [] [])
unfolding computed
reserved-cleared = record { number = refl; zeros = refl; header = refl; head = refl; pieces = end; closing = kept (stays refl) empty }

-- the example plant, grown
abbrev pub grown_plant : List (List ℕ)
grown_plant = carriers_grown ∷ modes_grown ∷ ranges_grown ∷ channels_grown ∷ []

pub plant-grows : GrownRun example_plant grown_plant
plant-grows = grown carriers-grow (grown modes-grow (grown ranges-grow (grown channels-grow Growth.GrownRun.end)))
