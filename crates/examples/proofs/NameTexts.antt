-- Request 2026-01, "Names follow the text rules of 003 section 7.1": every clause of the text rule on both sides of its border, computed. What
-- a mode is, and how long its block is, is swept over every value of the two bytes.
use Prim.Native.Nat.{ℕ, ◌+◌}
use mathlib.Core.Path.{◌≡◌, refl}
use mathlib.Core.Bool.{Bool, true, false}
use mathlib.Core.List.{List, [], ◌∷◌, ◌++◌, map}
use lib.ListN.{length, take, replicate}
use Rattle.rules.specs.Text.{is_page, is_wide, is_single, is_long, block_size, good_mode, blocks, good_text}
use Rattle.rules.proofs.Hex.{hex}
use Rattle.rules.proofs.Computed.{computed}
use Rattle.examples.proofs.Sweeps.{answered, sweep, counting, as_number, holding, swept}

-- the bytes that pass a test, and those that fail it
abbrev pub passing : (ℕ → Bool) → List ℕ
passing test = answered (λ n. as_number (test n)) 1 256

abbrev pub failing : (ℕ → Bool) → List ℕ
failing test = answered (λ n. as_number (test n)) 0 256

-- Table 7.3, "Select ISO/IEC 10646-1 Page" and the rows that are reserved
abbrev pub pages : List ℕ
pages = hex "00 01 02 03 04 05 06 09 0A 0B 0C 0D 0E 0F 10 20 21 22 23 24 25 26 27 30 31 32 33"

abbrev pub reserved : List ℕ
reserved = hex "07 08 11 12 13 14 15 16 17 18 19 1A 1B 1C 1D 1E 1F 28 29 2A 2B 2C 2D 2E 2F 34 35 36 37 38 39 3A 3B 3C 3D 3E"

-- blocks of two characters, of an effector of a single byte, of one character of 16 bits, of an effector whose parameters are none, and
-- again of an effector of a single byte: they end at 4, 5, 9, 11 and 12
abbrev pub five_blocks : List ℕ
five_blocks = hex "00 02 41 42 40 3F 02 4E 2D A0 00 9F"

pub record NameTexts : Type 0 where
  -- ---- what a mode is: the rows of Table 7.3
  pub page_modes : passing is_page ≡ pages
  pub wide_mode : passing is_wide ≡ 0x3F ∷ []
  pub single_modes : passing is_single ≡ counting 0x40 0x60
  pub long_modes : passing is_long ≡ counting 0xA0 0x60
  -- exactly the reserved ones are refused; with an odd length that of 16 bits too, and it by its length alone
  pub even : failing (λ m. good_mode m 2) ≡ reserved
  pub odd : failing (λ m. good_mode m 1) ≡ reserved ++ (0x3F ∷ [])
  -- and so with the longest lengths
  pub even_most : failing (λ m. good_mode m 254) ≡ reserved
  pub odd_most : failing (λ m. good_mode m 255) ≡ reserved ++ (0x3F ∷ [])
  pub wide_lengths : sweep 256 (λ n. as_number (good_mode 0x3F n)) ≡ holding 1 1 128
  -- ---- how long a block is: the length is omitted behind an effector of a single byte and behind no other mode; it counts the segment
  pub sizes : sweep 256 (λ m. block_size (m ∷ 5 ∷ [])) ≡ replicate 0x40 7 ++ replicate 0x60 1 ++ replicate 0x60 7
  pub lengths : sweep 256 (λ n. block_size (0 ∷ n ∷ [])) ≡ counting 2 256
  -- ---- so many blocks and no more, as long as bytes are left
  pub bounds : map (λ n. blocks n (hex "40 9F")) (0 ∷ 1 ∷ 2 ∷ 3 ∷ []) ≡ false ∷ false ∷ true ∷ true ∷ []
  pub bounds_none : map (λ n. blocks n []) (0 ∷ 1 ∷ []) ≡ true ∷ true ∷ []
  -- ---- texts
  -- one or more blocks: none is no text; of all bytes alone the effectors of a single byte are; with a length of 0 every other mode is, and
  -- behind such an effector the 0 is a block that is cut short
  pub empty : good_text [] ≡ false
  pub alone : passing (λ m. good_text (m ∷ [])) ≡ counting 0x40 0x60
  pub no_segment : passing (λ m. good_text (m ∷ 0 ∷ [])) ≡ pages ++ (0x3F ∷ counting 0xA0 0x60)
  -- they fill the bytes: a text that is cut ends where a block ends, a segment too short or too long for its length doesn't
  pub cuts : answered (λ n. as_number (good_text (take n five_blocks))) 1 (length five_blocks + 1) ≡ 4 ∷ 5 ∷ 9 ∷ 11 ∷ 12 ∷ []
  pub segment : answered (λ n. as_number (good_text (0 ∷ n ∷ hex "07 07 07 07"))) 1 256 ≡ 4 ∷ []
  pub most : good_text (0 ∷ 253 ∷ replicate 253 0x41) ≡ true
  -- as many blocks as bytes: a name of 255 effectors of a single byte; and one whose last block is cut
  pub most_blocks : good_text (replicate 255 0x40) ∷ good_text (replicate 254 0x40 ++ (0 ∷ [])) ∷ [] ≡ true ∷ false ∷ []
  -- each block is judged, by its own mode and length (behind an effector of a single byte the bytes here are blocks of their own)
  pub second_mode : failing (λ m. good_text (hex "00 01 41" ++ (m ∷ hex "02 00 9F"))) ≡ reserved
  pub second_odd : failing (λ m. good_text (hex "00 01 41" ++ (m ∷ hex "01 00"))) ≡ reserved ++ (0x3F ∷ [])
  -- characters aren't looked at
  pub characters : passing (λ n. good_text (0 ∷ 2 ∷ n ∷ n ∷ [])) ≡ counting 0 256

pub name-texts : NameTexts
unfolding computed swept
name-texts =
    record {
      page_modes = refl;
      wide_mode = refl;
      single_modes = refl;
      long_modes = refl;
      even = refl;
      odd = refl;
      even_most = refl;
      odd_most = refl;
      wide_lengths = refl;
      sizes = refl;
      lengths = refl;
      bounds = refl;
      bounds_none = refl;
      empty = refl;
      alone = refl;
      no_segment = refl;
      cuts = refl;
      segment = refl;
      most = refl;
      most_blocks = refl;
      second_mode = refl;
      second_odd = refl;
      characters = refl;
    }
