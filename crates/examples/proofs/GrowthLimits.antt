-- What growth is not: of each thing that the relation asks for, two that differ in it alone are not in it. By computation. (What is in it: Growths.antt. That
-- nothing in it changes an answer is condition 3 itself.)
use Prim.Native.Nat.{ℕ, suc, ◌≤◌}
use Prim.Native.String.{String}
use native.Mathlib.Omega.{arith}
use mathlib.Core.Path.{◌≡◌, refl, sym, ap}
use mathlib.Core.List.{List, [], ◌∷◌, ◌++◌}
use lib.ListN.{length}
use Rattle.rules.specs.Bytes.{byte}
use Rattle.rules.specs.Descriptors.{Descriptor}
use Rattle.rules.specs.Section.{Content, wrong, right}
use Rattle.rules.specs.Form.{form}
use Rattle.rules.specs.Parts.{Piece, Shaped, Fair}
use Rattle.rules.specs.Growth.{empty, kept, added, SameTag, GrownRevision, stays, other, GrownClosing, FullerPieces, end, GrownParts, Grown}
use Rattle.rules.specs.Growth.{Untouched, OtherProtocol}
use Rattle.rules.specs.declared.Table.TheVariants.{Cds, Vcm, Dcm, Ntt}
use Rattle.rules.proofs.Hex.{hex}
use Rattle.rules.proofs.Truths.{differ, unlike, not-most}
use Rattle.rules.proofs.Computed.{computed}
use Rattle.examples.proofs.Plants.{d, p, carriers_plain, parts, record1, channel1, two_records}

-- a closing list grown: 0x82 and the revision stay, 0x80 gets another body, 0x81 and 0x83 are added
abbrev pub grown_list :
    GrownClosing
    (d 0x82 "" ∷ d 0x93 "E5 00 00" ∷ d 0x80 "01" ∷ [])
    (d 0x82 "" ∷ d 0x93 "E5 00 00" ∷ d 0x80 "02" ∷ d 0x81 "" ∷ d 0x83 "" ∷ [])
grown_list =
    kept (stays refl)
    (kept (stays refl)
    (kept {d = d 0x80 "01"} {e = d 0x80 "02"} (other (λ e. omega (arith, e)) refl)
    (added (d 0x81 "") (λ e. omega (arith, e))
    (added (d 0x83 "") (λ e. omega (arith, e)) empty))))

-- two name records, each with a name of one byte
abbrev pub named : (first second : String) → List Piece
named first second = record { own = hex "00 12 34 01" ++ hex first; list = [] } ∷ record { own = hex "00 12 35 01" ++ hex second; list = [] } ∷ []

pub record GrowthLimits : Type 0 where
  -- ---- the revision descriptor: it was one and is one, of 3 bytes or more, with the same version, number and last
  pub was : GrownRevision (d 0x80 "E5 01 03") (d 0x93 "E5 01 03") → ⊥
  pub is : GrownRevision (d 0x93 "E5 01 03") (d 0x80 "E5 01 03") → ⊥
  pub long : GrownRevision (d 0x93 "E5 01") (d 0x93 "E5 01 00") → ⊥
  pub longer : GrownRevision (d 0x93 "E5 01 00") (d 0x93 "E5 01") → ⊥
  pub version : GrownRevision (d 0x93 "E5 01 03") (d 0x93 "F5 01 03") → ⊥
  pub number : GrownRevision (d 0x93 "E5 01 03") (d 0x93 "E5 02 03") → ⊥
  pub last : GrownRevision (d 0x93 "E5 01 03") (d 0x93 "E5 01 02") → ⊥
  -- ---- a descriptor that was there keeps its tag
  pub tag : SameTag (d 0x80 "01") (d 0x81 "01") → ⊥
  -- ---- the parts of a section: four bytes of header and the head in front, records of their size, as many as the count says, lists only
  -- behind records that have them
  pub header_short : Shaped (form Cds) (parts 0xC2 0x30 (hex "00 01 01") [] record1) → ⊥
  pub header_long : Shaped (form Cds) (parts 0xC2 0x30 (hex "00 01 01 01 00") [] record1) → ⊥
  pub head_none : Shaped (form Cds) (parts 0xC2 0x30 (hex "00 01 01 01") (0 ∷ []) record1) → ⊥
  pub head_short : Shaped (form Dcm) (parts 0xC4 0x30 (hex "00 01 00 00") (hex "00 02") []) → ⊥
  pub own_short : Shaped (form Cds) (parts 0xC2 0x30 (hex "00 01 01 01") [] (p "02 80 30 81" [] ∷ [])) → ⊥
  pub second_short : Shaped (form Cds) (parts 0xC2 0x30 (hex "00 01 02 01") [] (p "02 80 30 81 C8" [] ∷ p "02 80 30 81" [] ∷ [])) → ⊥
  pub fewer : Shaped (form Cds) (parts 0xC2 0x30 (hex "00 01 02 01") [] record1) → ⊥
  -- a name record has as many bytes as its length says
  pub name_short : Shaped (form Ntt) (parts 0xC3 0x30 (hex "00 65 6E 67 06") (1 ∷ []) (p "00 12 34 03 00 01" [] ∷ [])) → ⊥
  pub name_long : Shaped (form Ntt) (parts 0xC3 0x30 (hex "00 65 6E 67 06") (1 ∷ []) (p "00 12 34 01 40 40" [] ∷ [])) → ⊥
  pub no_list : Shaped (form Vcm) (parts 0xC4 0x30 (hex "00 00 00 00") (hex "00 00 00 00 00 00 01") (channel1 (d 0x80 "" ∷ []))) → ⊥
  -- ---- records that are not fair: a zero bit is 1; an index above 255, of the second record, which counts on from the first
  pub fair_zeros : Fair (form Cds) (parts 0xC2 0x30 (hex "00 01 01 01") [] (p "02 C0 30 81 C8" [] ∷ [])) → ⊥
  pub fair_index : Fair (form Cds) (two_records 0xFE) → ⊥
  -- ---- what stays: the table number, the zero bits of byte 1 and nothing else of it, what stands in front of the records
  pub other_number : GrownParts (parts 0xC2 0x30 [] [] []) (parts 0xC4 0x30 [] [] []) → ⊥
  pub zero_bit : GrownParts (parts 0xC2 0x00 [] [] []) (parts 0xC2 0x40 [] [] []) → ⊥
  pub zero_bit_back : GrownParts (parts 0xC2 0x40 [] [] []) (parts 0xC2 0x00 [] [] []) → ⊥
  pub other_header : GrownParts (parts 0xC2 0x30 (0 ∷ []) [] []) (parts 0xC2 0x30 (1 ∷ []) [] []) → ⊥
  pub other_head : GrownParts (parts 0xC2 0x30 [] (0 ∷ []) []) (parts 0xC2 0x30 [] (1 ∷ []) []) → ⊥
  pub other_records : GrownParts (parts 0xC2 0x30 [] [] record1) (parts 0xC2 0x30 [] [] []) → ⊥
  -- no record more; and none with another byte of its own, here of its name, behind others or in front of them
  pub more_records : GrownParts (parts 0xC2 0x30 [] [] []) (parts 0xC2 0x30 [] [] record1) → ⊥
  pub one_more : GrownParts (parts 0xC2 0x30 [] [] record1) (parts 0xC2 0x30 [] [] (record1 ++ record1)) → ⊥
  pub other_name : GrownParts (parts 0xC3 0x30 [] [] (named "41" "42")) (parts 0xC3 0x30 [] [] (named "40" "42")) → ⊥
  pub other_second : GrownParts (parts 0xC3 0x30 [] [] (named "41" "42")) (parts 0xC3 0x30 [] [] (named "41" "43")) → ⊥
  pub other_closing : GrownParts (parts 0xC2 0x30 [] [] [])
      (record { number = 0xC2; flags = 0x30; low = 0x10; header = []; head = []; pieces = []; closing = [] })
      → ⊥
  -- ---- the first section reads right; the grown one has a right L and a right CRC
  pub not_right : (g : List ℕ) → Grown (hex "C2 30") g → ⊥
  pub not_fitting : Grown carriers_plain (hex "C2 30") → ⊥
  pub not_sealed : Grown carriers_plain (hex "C2 00 20 00 01 01 01 02 80 30 81 C8 02 93 00 80 01 AA 81 00 93 05 05 00 00 AA BB C0 02 01 02 7D BB 44 31") → ⊥
  -- ---- the descriptor question leaves out what growth changed and what it added
  pub touched_other : Untouched 0x80 grown_list → ⊥
  pub touched_added : Untouched 0x81 grown_list → ⊥
  pub touched_last : Untouched 0x83 grown_list → ⊥
  -- ---- another protocol version: L is right, so are table number and CRC, and the version is the five low bits of byte 3
  pub protocol_three : OtherProtocol (hex "C2 30 0E 01 01 00 01 93 03 E5 00 00 D3 AF A4 5A") → ⊥
  pub protocol_four : OtherProtocol (hex "C1 30 0D 01 01 00 01 93 03 E5 00 00 5E C4 7C 4E") → ⊥
  pub protocol_five : OtherProtocol (hex "C2 30 0D 01 01 00 01 93 03 E5 00 00 56 DF 59 45") → ⊥
  pub protocol_six : OtherProtocol (hex "C2 30 0D 20 01 00 01 93 03 E5 00 00 94 55 C4 98") → ⊥

-- records are put nowhere and taken nowhere
fuller-count : {ps qs : List Piece} → FullerPieces ps qs → length ps ≡ length qs
fuller-count end = refl
fuller-count (FullerPieces.next own list more) = ap suc (fuller-count more)

-- and each keeps its own bytes
own_first : {ps qs : List Piece} {a b : Piece} → FullerPieces (a ∷ ps) (b ∷ qs) → b.own ≡ a.own
own_first (FullerPieces.next own list more) = own

fuller-rest : {ps qs : List Piece} {a b : Piece} → FullerPieces (a ∷ ps) (b ∷ qs) → FullerPieces ps qs
fuller-rest (FullerPieces.next own list more) = more

-- and no descriptor of a closing list is taken away
closing-count : {ds es : List Descriptor} → GrownClosing ds es → length ds ≤ length es
closing-count empty = omega arith
closing-count (kept k more) = let n = closing-count more in omega (arith, n)
closing-count (added d may more) = let n = closing-count more in omega (arith, n)

wrong-right : {n : ℕ} {c : Content} → wrong n ≡ right c → ⊥
wrong-right e = let z : ◌≡◌ {A = ℕ} 0 1 = cc in omega arith

pub growth-limits : GrowthLimits
unfolding computed
growth-limits =
    record {
      was = λ g. unlike refl g.was;
      is = λ g. unlike refl g.is;
      long = λ g. not-most refl g.same.long;
      longer = λ g. not-most refl g.same.longer;
      version = λ g. unlike refl g.same.version;
      number = λ g. unlike refl g.same.number;
      last = λ g. unlike refl g.same.last;
      tag = λ e. unlike refl e;
      header_short = λ s. unlike refl s.header;
      header_long = λ s. unlike refl s.header;
      head_none = λ s. unlike refl s.head;
      head_short = λ s. unlike refl s.head;
      own_short = λ s. unlike refl s.sized.0;
      second_short = λ s. unlike refl s.sized.2.0;
      fewer = λ s. unlike refl s.count;
      name_short = λ s. unlike refl s.sized.0;
      name_long = λ s. unlike refl s.sized.0;
      no_list = λ s. unlike refl (ap length (s.sized.1 refl));
      fair_zeros = λ f. differ (sym f.0);
      fair_index = λ f. differ (sym f.2.1);
      other_number = λ g. unlike refl g.number;
      zero_bit = λ g. unlike refl g.zeros;
      zero_bit_back = λ g. unlike refl g.zeros;
      other_header = λ g. unlike refl (ap (byte 0) g.header);
      other_head = λ g. unlike refl (ap (byte 0) g.head);
      other_records = λ g. unlike refl (fuller-count g.pieces);
      more_records = λ g. unlike refl (fuller-count g.pieces);
      one_more = λ g. unlike refl (fuller-count g.pieces);
      other_name = λ g. unlike refl (ap (byte 4) (own_first g.pieces));
      other_second = λ g. unlike refl (ap (byte 4) (own_first (fuller-rest g.pieces)));
      other_closing = λ g. not-most refl (closing-count g.closing);
      not_right = λ s g. wrong-right g.reads;
      not_fitting = λ g. differ (sym g.fits);
      not_sealed = λ g. unlike refl g.crc;
      touched_other = λ u. u.0 refl;
      touched_added = λ u. u.1.0 refl;
      touched_last = λ u. u.1.1.0 refl;
      protocol_three = λ o. differ (sym o.three);
      protocol_four = λ o. differ (sym o.four);
      protocol_five = λ o. unlike refl o.five;
      protocol_six = λ o. o.six refl;
    }
