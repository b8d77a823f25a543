-- Document 01, "Numbers of refusal": refusal 3, the order front to back, each thing taken whole, and refusal 11, computed. (Every clause of 4 to 10:
-- SectionRefusals.antt.)
use Prim.Native.Nat.{ℕ, ◌/◌}
use mathlib.Core.Path.{◌≡◌, refl}
use mathlib.Core.Bool.{true, false}
use mathlib.Core.List.{List, [], ◌∷◌, ◌++◌, map}
use lib.Dec.{leb, eqb}
use lib.ListN.{length, replicate}
use Rattle.rules.specs.Bytes.{refused, got, byte}
use Rattle.rules.specs.Layout.{Block, extent, taken}
use Rattle.rules.specs.Tables.{cds}
use Rattle.rules.specs.Form.{Form, no_head, no_language}
use Rattle.rules.specs.Section.{header_of, content, read, check_of, check}
use Rattle.rules.specs.declared.Carriers.{Carriers}
use Rattle.rules.proofs.Hex.{hex}
use Rattle.rules.proofs.Computed.{computed}

-- what is answered to a section without its CRC that has passed checks 3 to 6
abbrev pub body : List ℕ → ℕ
body bs = check_of (read (content bs))

-- as a text behind its length: one byte, and as many more as it says; the top bit of the last one is a zero bit. It says how many bytes it has
abbrev pub texted : Block ℕ
texted = record { size = 1; more = byte 0; zeros = λ r. eqb (byte (byte 0 r) r / 128) 0; look = length }

-- a table whose header ends in such a text
abbrev pub texted_form : Form
texted_form =
    record {
      number = 0xC2;
      medium = 6;
      subtype = 1;
      header =
          record {
            size = 1;
            more = byte 0;
            zeros = λ r. eqb (byte (byte 0 r) r / 128) 0;
            look = λ r. record { map = 0; language = no_language; first = length r; count = 0; included = 0; splice = 0; time = 0 };
          };
      limits = λ x. true;
      mapped = false;
      spoken = false;
      Head = Unit {0};
      head = no_head;
      joined = λ x h. x;
      Row = Carriers;
      layout = λ x. cds;
      says = λ rs. record { carriers = rs; modes = []; channels = []; ranges = []; names = [] };
      rows_in = λ p. p.carriers;
    }

pub record SectionOrder : Type 0 where
  -- ---- refusal 3, before 4: a table number of 0xC1 would be 4
  -- fewer than 8 bytes; not exactly 3 + L, by one either way
  pub three_few : map check ([] ∷ hex "C1 33 FF" ∷ hex "C1 30 04 00 00 00 00" ∷ hex "C1 30 05 00 00 00 00 00" ∷ []) ≡ 3 ∷ 3 ∷ 3 ∷ 4 ∷ []
  pub three_exactly : map check (hex "C1 30 04 00 00 00 00 00" ∷ hex "C1 30 06 00 00 00 00 00" ∷ []) ≡ 3 ∷ 3 ∷ []
  -- L is 12 bits, without the four in front of them; 1,021 is the most
  pub three_bits : map (λ (flags : ℕ). check (0xC1 ∷ flags ∷ 0x05 ∷ replicate 261 0)) (0x01 ∷ 0xF1 ∷ 0x00 ∷ 0x02 ∷ []) ≡ 4 ∷ 4 ∷ 3 ∷ 3 ∷ []
  pub three_above : check (0xC1 ∷ 0x33 ∷ 0xFD ∷ replicate 1021 0) ∷ check (0xC1 ∷ 0x33 ∷ 0xFE ∷ replicate 1022 0) ∷ [] ≡ 4 ∷ 3 ∷ []
  -- ---- the order front to back, each thing whole: 8 before 9 before 10, and a later one is not looked at
  -- the header of 0xC2: medium and subtype not there, 9 of byte 1, 9 of byte 3, first index 0 before the first record
  pub order_header :
      map body
      (hex "C2 40 00 20 00 00"
      ∷ hex "C2 40 00 00 00 00 01"
      ∷ hex "C2 00 00 20 00 00 01"
      ∷ hex "C2 00 00 00 00 00 01"
      ∷ hex "C2 30 00 00 00 01 01 01 40 00 15 18 00"
      ∷ [])
      ≡ 8 ∷ 9 ∷ 9 ∷ 10 ∷ 10 ∷ []
  -- the header of 0xC4: medium and subtype not there; there and wrong, the map number cut; right, and the map number cut; then its zero
  -- bits, before a head that is cut
  pub order_map :
      map body
      (hex "C4 70 00 20"
      ∷ hex "C4 70 00 20 20"
      ∷ hex "C4 70 00 20 10 00"
      ∷ hex "C4 70 00 00 00"
      ∷ hex "C4 30 00 20 00 00"
      ∷ hex "C4 70 00 00 00 00 00"
      ∷ hex "C4 70 00 00 01 00 00 00 03"
      ∷ [])
      ≡ 8 ∷ 7 ∷ 7 ∷ 8 ∷ 8 ∷ 9 ∷ 9 ∷ []
  -- its zero bits are the high two of byte 1 and the high three of byte 3, and no other bit of these bytes
  pub header_bits : body (hex "C2 3F 00 1F 01 00 01 93 03 E5 00 00") ≡ 0
  -- a record of each kind that is short, has a zero bit set and a value out of its limits; then not short; then with its zero bits 0
  pub order_carriers :
      map (λ r. body (hex "C2 30 00 00 01 01 01" ++ r)) (hex "00 40 00 00" ∷ hex "00 40 00 00 00" ∷ hex "00 00 00 00 00" ∷ [])
      ≡ 8 ∷ 9 ∷ 10 ∷ []
  pub order_modes :
      map (λ r. body (hex "C2 30 00 00 01 01 02" ++ r)) (hex "10 60 F0 00 00" ∷ hex "10 60 F0 00 00 00" ∷ hex "10 00 00 00 00 00" ∷ [])
      ≡ 8 ∷ 9 ∷ 10 ∷ []
  pub order_channels :
      map (λ r. body (hex "C4 30 00 00 00 00 00 00 00 00 00 00 00 01" ++ r))
      (hex "F0 00 5F 00 00 00 7F FF"
      ∷ hex "F0 00 5F 00 00 00 7F FF FF"
      ∷ hex "00 00 1F 00 00 00 0F 00 00"
      ∷ [])
      ≡ 8 ∷ 9 ∷ 10 ∷ []
  pub order_ranges :
      map (λ r. body (hex "C4 30 00 00 01 00 00" ++ r)) (hex "F0 00" ∷ hex "F0 00 81" ∷ hex "00 00 01" ∷ hex "00 00 01 00" ∷ [])
      ≡ 8 ∷ 9 ∷ 8 ∷ 10 ∷ []
  -- what has as many more bytes as its first ones say is taken whole too, also a header that ends so: here 3 bytes at most
  pub order_more :
      map (taken texted (λ n. leb n 3))
      ([] ∷ hex "02 00" ∷ hex "02 00 FF" ∷ hex "02 FF 7F" ∷ hex "02 FF 00 FF" ∷ hex "03 00 00 7F" ∷ hex "03 00 00 FF" ∷ hex "00 FF" ∷ [])
      ≡ refused 8 ∷ refused 8 ∷ refused 9 ∷ got 3 [] ∷ got 3 (hex "FF") ∷ refused 10 ∷ refused 9 ∷ got 1 (hex "FF") ∷ []
  pub header_more :
      map (extent (header_of texted_form)) (hex "C2 30 07 02 05" ∷ hex "C2 30 00 01 02 03" ∷ []) ≡ 6 ∷ 5 ∷ []
  -- a descriptor count that isn't there; fewer descriptors than it says; one that ends at the CRC, and one that runs into it by a byte
  pub order_lists :
      map (λ r. body (hex "C2 30 00 00 01 01 01 01 00 00 15 18" ++ r))
      ([]
      ∷ hex "00"
      ∷ hex "01"
      ∷ hex "01 80"
      ∷ hex "01 80 01"
      ∷ hex "01 80 01 FF"
      ∷ hex "02 80 01 FF"
      ∷ hex "01 80 01 FF 93 03 E5 00 00"
      ∷ [])
      ≡ 8 ∷ 11 ∷ 8 ∷ 8 ∷ 8 ∷ 11 ∷ 8 ∷ 0 ∷ []
  -- a record count that is too large: the closing list is read as records, here of carriers with an index above 255, and of a mode with zero bits set
  pub order_count :
      map body
      (hex "C2 30 00 00 C8 02 01 01 00 00 15 18 00 93 03 E5 00 00"
      ∷ hex "C2 30 00 00 01 02 02 2F 08 00 4D 29 AD 00 93 63 E5 00 00 00"
      ∷ [])
      ≡ 10 ∷ 9 ∷ []
  -- descriptors-included: without it no count stands behind a channel record, with it one does
  pub order_included :
      map (λ head. body (head ++ hex "00 00 00 00 00 01 00 03 00 12 34 02 00 03 01 00 93 03 E5 00 00"))
      (hex "C4 30 00 00 00 00 00 20"
      ∷ hex "C4 30 00 00 00 00 00 00"
      ∷ [])
      ≡ 0 ∷ 8 ∷ []
  -- ---- refusal 11, of the closing list: absent, twice, body below 3 bytes, number above last
  pub eleven :
      map (λ list. body (hex "C2 30 00 00 01 00 01" ++ list))
      (hex "80 03 E5 00 00"
      ∷ hex "93 03 E5 00 00 93 03 E5 00 00"
      ∷ hex "93 02 E5 00"
      ∷ hex "93 03 E5 01 00"
      ∷ hex "93 03 E5 01 01"
      ∷ hex "80 01 FF 93 04 E5 00 01 FF 81 00"
      ∷ hex "93 02 E5 00 93 03 E5 00 00"
      ∷ [])
      ≡ 11 ∷ 11 ∷ 11 ∷ 11 ∷ 0 ∷ 0 ∷ 11 ∷ []

pub section-order : SectionOrder
unfolding computed
section-order =
    record {
      three_few = refl;
      three_exactly = refl;
      three_bits = refl;
      three_above = refl;
      order_header = refl;
      order_map = refl;
      header_bits = refl;
      order_carriers = refl;
      order_modes = refl;
      order_channels = refl;
      order_ranges = refl;
      order_more = refl;
      header_more = refl;
      order_lists = refl;
      order_count = refl;
      order_included = refl;
      eleven = refl;
    }
