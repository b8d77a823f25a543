-- Request 2026-01, the label of a channel: "the name bytes of the first record with its application flag and number, or, if there is none or the table isn't
-- live, the bytes of the fallback label that the hotel lends; either way a part of what was lent and no copy". Its parts, and where the records of a live table
-- stand, computed. (Through `labelled` of live boxes, with its refusals: LabelledBoxes.antt.)
use Prim.Native.Nat.{ℕ}
use mathlib.Core.Path.{◌≡◌, refl}
use mathlib.Core.List.{List, [], ◌∷◌, ◌++◌, map}
use mathlib.Core.Option.{none, some}
use lib.ListN.{length, replicate}
use Rattle.rules.specs.Bytes.{refused, got}
use Rattle.rules.specs.Tables.{cds, channel_of}
use Rattle.rules.specs.Form.{form}
use Rattle.rules.specs.Section.{without_crc}
use Rattle.rules.specs.Holding.{put, none_live, none_gathered, with}
use Rattle.rules.specs.Standing.{Standing, of_got, standing, standing_of, live_standing}
use Rattle.rules.specs.Label.{is_name, live_names, label_of, channel_label, names_read, label_bytes}
use Rattle.rules.specs.declared.Table.{Table}
use Rattle.rules.specs.declared.Table.TheVariants.{Cds, Vcm, Ntt}
use Rattle.rules.specs.declared.State.{State}
use Rattle.rules.specs.declared.Labelled.TheVariants.{Named, Fallback}
use Rattle.rules.proofs.Hex.{hex}
use Rattle.rules.proofs.Computed.{computed}
use Rattle.examples.proofs.Plants.{plant_cds, plant_vcm, plant_ntt, names_plain, names_grown}
use Rattle.examples.proofs.Sweeps.{swept, answered, as_number}
use Rattle.examples.proofs.HoldingClauses.{live, gathered, holding}
use Rattle.examples.proofs.TuningClauses.{live5}
use Rattle.examples.proofs.LiveBoxes.{padded}
use Rattle.examples.proofs.NameSections.{name}
use Rattle.rules.specs.Refusals.{wrong, right}

-- ---- states: each table's version 5 with last 0 is live in half 0, but for the names, of which this is live

abbrev pub names_held : (present version last half : ℕ) → State
names_held present version last half = with live5 Ntt (holding (live present version last) none_gathered half)

-- two sections of names, version 6: the application 0x1234, number 0x1234 with descriptors behind its name, and number 0x1234 again; then number 0x1234 once
-- more, the application 0x1235, and number 0
abbrev pub low_names : List ℕ
low_names =
    hex "C3 30 2F 00 65 6E 67 06 03 80 12 34 03 00 01 4C 00 00 12 34 06 80 3F 02 4E 2D 9F 02 93 00 80 01 AA"
    ++ hex "00 12 34 03 00 01 41 00 93 03 E6 00 01 4E A4 41 1F"

abbrev pub high_names : List ℕ
high_names = hex "C3 30 26 00 65 6E 67 06 03 00 12 34 03 00 01 42 00 80 12 35 03 00 01 43 00 00 00 00 02 00 00 00 93 03 E6 01 01 62 9A BA DB"

-- and one section, version 5: the application 0x1234
abbrev pub small_names : List ℕ
small_names = hex "C3 30 16 00 65 6E 67 06 01 80 12 34 02 00 00 00 93 03 E5 00 00 8C 6F 68 BC"

-- these names alone, in their places
abbrev pub names_alone : (names : List ℕ) → List ℕ
names_alone names = replicate 32768 0 ++ padded 8192 names

-- where the records of a section stand in it
abbrev pub standing_alone : (t : Table) → List ℕ → List (Standing (form t).Row)
standing_alone t section = standing_of (form t) (length (without_crc section)) (without_crc section)

-- whether live names read, in the store of these alone, with what is held of them
abbrev pub reading : State → (names : List ℕ) → ℕ
reading s names = as_number (names_read s (names_alone names))

pub record LabelClauses : Type 0 where
  -- ---- "the first record with its application flag and number": both, and exactly these
  pub is_name_computed :
      (answered (λ n. as_number (is_name 0 7 (name 0 n []))) 1 16 ≡ 7 ∷ [])
      × (answered (λ n. as_number (is_name 1 7 (name 1 n []))) 1 16 ≡ 7 ∷ [])
      × (map (λ n. as_number (is_name 0 7 (name n 7 []))) (0 ∷ 1 ∷ []) ≡ 1 ∷ 0 ∷ [])
      × (map (λ n. as_number (is_name 1 7 (name n 7 []))) (0 ∷ 1 ∷ []) ≡ 0 ∷ 1 ∷ [])
  -- all sixteen bits of the number
  pub is_number :
      map (λ n. as_number (is_name 0 0x1234 (name 0 n []))) (0x1234 ∷ 0x0034 ∷ 0x1334 ∷ 0x0234 ∷ 0x9234 ∷ 0x1235 ∷ 0x1134 ∷ [])
      ≡ 1 ∷ 0 ∷ 0 ∷ 0 ∷ 0 ∷ 0 ∷ 0 ∷ []
  -- the name stands behind the four bytes that every record has
  pub label_of_computed :
      map label_of (none ∷ some (record { row = name 0 7 (hex "40"); at = 100 }) ∷ some (record { row = name 1 9 (hex "00 02 41 42"); at = 0 })
      ∷ some (record { row = name 0 7 (replicate 255 0x40); at = 40000 }) ∷ [])
      ≡ Fallback ∷ Named 104 1 ∷ Named 4 4 ∷ Named 40004 255 ∷ []
  -- the label is a part of the store, from its start to its size, or the fallback, whatever bytes it has, also none; nothing where the question is refused
  pub parts :
      map (label_bytes (hex "01 02 03 04") (hex "AA")) (right (Named 1 2) ∷ right (Named 0 4) ∷ right (Named 3 0) ∷ wrong 18 ∷ [])
      ≡ hex "02 03" ∷ hex "01 02 03 04" ∷ [] ∷ [] ∷ []
  pub fallbacks : map (λ lent. label_bytes (hex "01 02 03") lent (right Fallback)) (hex "07 FF" ∷ [] ∷ []) ≡ hex "07 FF" ∷ [] ∷ []
  -- of a channel's record the flag and the number alone: digital, hidden and of path 1, analogue, and applications, one of them hidden, of path 1 and analogue
  pub any_channel :
      map (λ r. channel_label (names_held 1 6 1 0) (names_alone (padded 1024 low_names ++ high_names)) (some (record { index = 0; what = channel_of r })))
      (hex "00 03 00 12 34 02 00 03 01"
      ∷ hex "00 03 21 12 34 02 00 03 01"
      ∷ hex "00 03 10 12 34 02 84 00 00"
      ∷ hex "00 03 80 12 34 00 00 00 00"
      ∷ hex "00 03 B1 12 34 02 84 00 00"
      ∷ [])
      ≡ right (Named 32789 6) ∷ right (Named 32789 6) ∷ right (Named 32789 6) ∷ right (Named 32781 3) ∷ right (Named 32781 3) ∷ []
  -- refusal 18: no channel record
  pub no_channel : channel_label live5 [] none ≡ wrong 18
  -- ---- the live names: none where the table isn't live; those that are gathered beside them don't matter (readings, Q13); the live half is the one set
  pub none_live_computed : live_names (with live5 Ntt (holding none_live none_gathered 0)) (names_alone small_names) ≡ []
  pub gathered_too :
      map (λ x. x.at) (live_names (with live5 Ntt (holding (live 1 5 0) (gathered 1 6 1 0x01) 0)) (names_alone small_names)) ≡ 32777 ∷ []
  pub other_half : map (λ x. x.at) (live_names (names_held 1 5 0 1) (names_alone (padded 4096 [] ++ small_names))) ≡ 36873 ∷ []
  -- ---- 16 for live names: damaged in one byte; another table's section; names in another language; then right ones
  pub sixteen_names :
      map (reading live5)
      (put small_names 13 (hex "01")
      ∷ plant_cds
      ∷ hex "C3 30 16 00 45 4E 47 06 01 80 12 34 02 00 00 00 93 03 E5 00 00 58 1F CA 08"
      ∷ small_names
      ∷ [])
      ≡ 0 ∷ 0 ∷ 0 ∷ 1 ∷ []
  -- of another version or last than the live one; where none are live none are read
  pub sixteen_held : map (λ s. reading s small_names) (names_held 1 6 0 0 ∷ names_held 1 5 1 0 ∷ names_held 0 0 0 1 ∷ []) ≡ 0 ∷ 0 ∷ 1 ∷ []
  -- live names read while others are gathered
  pub sixteen_gathering : reading (with live5 Ntt (holding (live 1 5 0) (gathered 1 6 1 0x01) 0)) small_names ≡ 1
  -- every live place of the names is read, the first and the last
  pub sixteen_places :
      map (reading (names_held 1 6 1 0)) ((padded 1024 high_names ++ high_names) ∷ (padded 1024 low_names ++ low_names) ∷ []) ≡ 0 ∷ 0 ∷ []
  -- ---- where the records of a section stand that ends at a place, here at the end of its own bytes without the CRC: behind the header and the head, each
  -- behind the descriptors of the one before it. Nothing stands behind a header that doesn't read
  pub stand_names : map (λ x. x.at) (standing_alone Ntt plant_ntt) ≡ 9 ∷ 17 ∷ 25 ∷ 41 ∷ 50 ∷ []
  pub stand_carriers : map (λ x. x.at) (standing_alone Cds plant_cds) ++ map (λ x. x.row.index) (standing_alone Cds plant_cds) ≡ 7 ∷ 13 ∷ 3 ∷ 5 ∷ []
  pub stand_channels : map (λ x. x.at) (standing_alone Vcm plant_vcm) ≡ 14 ∷ 24 ∷ 36 ∷ []
  pub stand_not : live_standing live5 (hex "00 00 00 00 00 00 00 00") Cds ≡ []
  -- of a live table, section by section, each at its place
  pub stand_live :
      live_standing (names_held 1 6 1 0) (names_alone (padded 1024 low_names ++ high_names)) Ntt
      ≡ record { row = name 1 0x1234 (hex "00 01 4C"); at = 32777 }
      ∷ record { row = name 0 0x1234 (hex "80 3F 02 4E 2D 9F"); at = 32785 }
      ∷ record { row = name 0 0x1234 (hex "00 01 41"); at = 32801 }
      ∷ record { row = name 0 0x1234 (hex "00 01 42"); at = 33801 }
      ∷ record { row = name 1 0x1235 (hex "00 01 43"); at = 33809 }
      ∷ record { row = name 0 0 (hex "00 00"); at = 33817 }
      ∷ []
  -- the fourth of four sections too
  pub stand_fourth : map (λ x. x.at) (live_standing (names_held 1 5 3 0) (names_alone (padded 3072 [] ++ small_names)) Ntt) ≡ 35849 ∷ []
  -- so many records and no more, and those in front of one that doesn't read
  pub stand_so_many :
      map (λ n. map (λ x. x.at) (standing cds n 1 100 (hex "01 00 00 15 18 00 01 00 00 15 18 00 01"))) (0 ∷ 1 ∷ 2 ∷ 3 ∷ [])
      ≡ [] ∷ (87 ∷ []) ∷ (87 ∷ 93 ∷ []) ∷ (87 ∷ 93 ∷ []) ∷ []
  pub of_got_computed : of_got (refused 8) (λ n rest. n ∷ rest) ∷ of_got (got 7 (hex "08 09")) (λ n rest. n ∷ rest) ∷ [] ≡ [] ∷ hex "07 08 09" ∷ []
  -- grown names are the same ones, so that labels have the same bytes, and their places move (T18)
  pub grown_names :
      (map (λ x. x.row) (standing_alone Ntt names_plain) ≡ map (λ x. x.row) (standing_alone Ntt names_grown))
      × (map (λ x. x.at) (standing_alone Ntt names_plain) ≡ 9 ∷ 17 ∷ [])
      × (map (λ x. x.at) (standing_alone Ntt names_grown) ≡ 9 ∷ 22 ∷ [])

pub label-clauses : LabelClauses
unfolding computed swept
label-clauses =
    record {
      is_name_computed = (refl, refl, refl, refl);
      is_number = refl;
      label_of_computed = refl;
      parts = refl;
      fallbacks = refl;
      any_channel = refl;
      no_channel = refl;
      none_live_computed = refl;
      gathered_too = refl;
      other_half = refl;
      sixteen_names = refl;
      sixteen_held = refl;
      sixteen_gathering = refl;
      sixteen_places = refl;
      stand_names = refl;
      stand_carriers = refl;
      stand_channels = refl;
      stand_not = refl;
      stand_live = refl;
      stand_fourth = refl;
      stand_so_many = refl;
      of_got_computed = refl;
      grown_names = (refl, refl, refl);
    }
