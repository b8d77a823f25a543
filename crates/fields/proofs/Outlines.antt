-- What the code relies on of every table's form, and where the records of a section stand in the code's terms.
use Prim.Native.Nat.{ℕ, ◌+◌, ◌/◌, ◌≤◌, ◌<◌}
use native.Mathlib.Omega.{arith}
use mathlib.Core.Path.{◌≡◌, refl, sym, ap, subst, ◌∙◌}
use mathlib.Core.{Bool.true, Bool.◌&&◌, List.List}
use lib.{ListN.length, ListN.take, Dec.eqb, Seq.get_or-take}
use borrow.Author.Tests.{le-leb, lt-ltb}
use Rattle.rules.specs.Bytes.{Got, refused, got, unless, giving, byte, word, from}
use Rattle.rules.specs.Layout.{extent, taken, Layout, numbered, records}
use Rattle.rules.specs.Tables.{cds, mms, vcm, dcm, ntt}
use Rattle.rules.specs.Form.{Front, protocol_zeros, counted_header, no_head, map_header, name_header, form}
use Rattle.rules.specs.{Section.header_of, Section.in_front, declared.Table.Table}
use Rattle.rules.specs.declared.Table.TheVariants.{Cds, Mms, Vcm, Dcm, Ntt}
use Rattle.rules.proofs.{Taken.unless-got, Taken.giving-got, Taken.taken-got, Places.byte-part, Places.from-from, Places.from-length}
use Rattle.fields.specs.Outline.{header_size, header_says, behind_header, records_at, layout_of, outlined_as, fronted, outline_of}
use Rattle.std.specs.Prelude.{Result, Ok, Err}
use Rattle.rules.specs.Refusals.{OrRefused, wrong, right, number, by_number}
use Rattle.rules.specs.declared.Refusal.{Refusal}
use Rattle.fields.specs.declared.Outline.{Outline}

-- ---- the bytes of the header

-- the form's part stands behind byte 2
pub header-byte : (n : ℕ) (b : List ℕ) (j : ℕ) → 3 + j < n → byte j (from (take n b) 3) ≡ byte (3 + j) b
header-byte n b j h = byte-part b n 3 j (omega (arith, h))

zeros-are : (n : ℕ) → 3 < n → (b : List ℕ)
    → (eqb (byte 1 (take n b) / 64) 0 && eqb (byte 0 (from (take n b) 3) / 32) 0) ≡ (eqb (byte 1 b / 64) 0 && eqb (byte 3 b / 32) 0)
unfolding byte
zeros-are n h b = rw (get_or-take n b 1 0 (omega (arith, h)), header-byte n b 0 (omega (arith, h)))

-- ---- a table's form: a header of seven bytes or eight, with zero bits in bytes 1 and 3; a layout that goes by descriptors-included alone, which
-- change neither what a record says nor its size

pub record Laid (t : Table) : Type 0 where
  pub header : (b : List ℕ) → extent (header_of (form t)) b ≡ header_size t
  pub zeros : (b : List ℕ) → (header_of (form t)).zeros (take (header_size t) b) ≡ (eqb (byte 1 b / 64) 0 && eqb (byte 3 b / 32) 0)
  pub language : (x : Front) (h : (form t).Head) → ((form t).joined x h).language ≡ x.language
  pub layout : (y : Front) → (form t).layout y ≡ layout_of t y.included
  pub says : (included index : ℕ) (bs : List ℕ) → numbered (layout_of t 0) index bs ≡ numbered (layout_of t included) index bs
  pub size : (included : ℕ) (bs : List ℕ) → extent (layout_of t 0).block bs ≡ extent (layout_of t included).block bs
  pub some : (bs : List ℕ) → 0 < extent (layout_of t 0).block bs

pub laid : (t : Table) → Laid t
unfolding header_of counted_header map_header name_header protocol_zeros numbered cds mms vcm dcm ntt
laid Cds = record { header = λ b. refl; zeros = zeros-are 7 (omega arith); language = λ x h. refl; layout = λ y. refl; says = λ i n bs. refl; size = λ i bs. refl; some = λ bs. omega arith }
laid Mms = record { header = λ b. refl; zeros = zeros-are 7 (omega arith); language = λ x h. refl; layout = λ y. refl; says = λ i n bs. refl; size = λ i bs. refl; some = λ bs. omega arith }
laid Vcm = record { header = λ b. refl; zeros = zeros-are 7 (omega arith); language = λ x h. refl; layout = λ y. refl; says = λ i n bs. refl; size = λ i bs. refl; some = λ bs. omega arith }
laid Dcm = record { header = λ b. refl; zeros = zeros-are 7 (omega arith); language = λ x h. refl; layout = λ y. refl; says = λ i n bs. refl; size = λ i bs. refl; some = λ bs. omega arith }
laid Ntt = record { header = λ b. refl; zeros = zeros-are 8 (omega arith); language = λ x h. refl; layout = λ y. refl; says = λ i n bs. refl; size = λ i bs. refl; some = λ bs. omega arith }

-- ---- the outline of a table

module _ (b : List ℕ) where
  -- 0xC2 has its first index and its count in the header, and no head
  refused-zero : (first : ℕ) → first ≡ byte 4 b → first ≡ 0 → wrong 10 ≡ outline_of Cds b
  unfolding outline_of outlined_as fronted unless header_of counted_header
  refused-zero first e z = rw (header-byte 7 b 1 (omega arith), ← e, z)

  right-behind : (first count : ℕ) → first ≡ byte 4 b → count ≡ byte 5 b → (first ≡ 0 → ⊥)
      → right (record { at = 7; map = 0; first = first; count = count; included = 0 }) ≡ outline_of Cds b
  unfolding outline_of outlined_as fronted in_front records_at taken unless giving header_of counted_header no_head
  right-behind first count e f n =
      rw (header-byte 7 b 1 (omega arith), header-byte 7 b 2 (omega arith), ← e, ← f, lt-ltb 0 first (omega arith), le-leb 0 (length (from b 7)) (omega arith))

  counted-alike : outline_of Cds b ≡ outline_of Mms b
  unfolding outline_of outlined_as fronted in_front records_at header_of
  counted-alike = go (fronted Cds b)
    where
      go : (g : Got Front) → outlined_as Cds b g ≡ outlined_as Mms b g
      go (refused n) = refl
      go (got y rest) = refl

  both : {r : OrRefused Outline} → r ≡ outline_of Cds b → (r ≡ outline_of Cds b) × (r ≡ outline_of Mms b)
  both e = (e, e ∙ counted-alike)

  pub counted-no : (first : ℕ) → first ≡ byte 4 b → first ≡ 0 → (wrong 10 ≡ outline_of Cds b) × (wrong 10 ≡ outline_of Mms b)
  counted-no first e z = both (refused-zero first e z)

  pub counted-so : (first count : ℕ) → first ≡ byte 4 b → count ≡ byte 5 b → (first ≡ 0 → ⊥)
      → let r : OrRefused Outline = right (record { at = 7; map = 0; first = first; count = count; included = 0 }) in
      (r ≡ outline_of Cds b) × (r ≡ outline_of Mms b)
  counted-so first count e f n = both (right-behind first count e f n)

  -- 0xC4 has its map number in the header
  pub map_is : (map : ℕ) → map ≡ word 5 b → map ≡ (map_header.look (from (take 7 b) 3)).map
  unfolding map_header
  map_is map e = e ∙ sym (rw (header-byte 7 b 2 (omega arith), header-byte 7 b 3 (omega arith)))

-- and a head behind it
module _ (t : Table) (b : List ℕ) (fair : (form t).limits (header_says t b) ≡ true) where
  pub head-no : (n : ℕ) → taken (form t).head (λ h. true) (from b (header_size t)) ≡ refused n → wrong n ≡ outline_of t b
  unfolding outline_of outlined_as fronted in_front unless giving
  head-no n e = rw (fair, (laid t).header b, e)

  records-at : records_at t b ≡ header_size t + extent (form t).head (from b (header_size t))
  unfolding records_at
  records-at = rw ((laid t).header b)

  pub head-so : (h : (form t).Head) (rest : List ℕ) → taken (form t).head (λ h. true) (from b (header_size t)) ≡ got h rest
      → let y = (form t).joined (header_says t b) h in
      right (record {
        at = header_size t + extent (form t).head (from b (header_size t));
        map = y.map;
        first = y.first;
        count = y.count;
        included = y.included;
      })
      ≡ outline_of t b
  unfolding outline_of outlined_as fronted in_front unless giving
  head-so h rest e =
      let y = (form t).joined (header_says t b) h in
      rw (fair, (laid t).header b, e) (ap (λ (n : ℕ). right (record { at = n; map = y.map; first = y.first; count = y.count; included = y.included }))
      (sym records-at))

-- ---- what an outline says of the section

-- what stands in front of the records was got, and the records of the form's layout are those of the outline
pub record Area (t : Table) (b : List ℕ) (o : Outline) : Type 0 where
  pub front : Front
  pub is : fronted t b ≡ got front (from b o.at)
  pub within : o.at ≤ length b
  pub map : o.map ≡ front.map
  pub first : o.first ≡ front.first
  pub count : o.count ≡ front.count
  pub layout : (form t).layout front ≡ layout_of t o.included
  pub language : front.language ≡ (header_says t b).language
  pub walked : records ((form t).layout front) front.count front.first (from b o.at)
      ≡ records (layout_of t o.included) o.count o.first (from b o.at)

abbrev tells : Table → List ℕ → OrRefused Outline → Type 0
tells t b (wrong n) = fronted t b ≡ refused n
tells t b (right o) = Area t b o

module _ (t : Table) (b : List ℕ) (w : header_size t ≤ length b) where
  -- what a head leaves stands behind its bytes
  head-place : (y : Front) (rest : List ℕ) → fronted t b ≡ got y rest → (rest ≡ from b (records_at t b)) × (records_at t b ≤ length b)
  unfolding fronted in_front records_at
  head-place y rest e =
      let g = giving-got _ _ _ _ (unless-got _ _ _ _ _ e).1 in
      let h = taken-got (form t).head (λ h. true) (behind_header t b) g.0 rest g.1 in
      let n = extent (header_of (form t)) b in
      (h.behind ∙ from-from b n _, omega (arith, h.fits, from-length b n, (laid t).header b))

  head-language : (y : Front) (rest : List ℕ) → fronted t b ≡ got y rest → y.language ≡ (header_says t b).language
  unfolding fronted in_front
  head-language y rest e =
      let g = giving-got _ _ _ _ (unless-got _ _ _ _ _ e).1 in
      ap (λ (x : Front). x.language) g.2 ∙ (laid t).language (header_says t b) g.0

  by_front : (g : Got Front) → fronted t b ≡ g → tells t b (outlined_as t b g)
  unfolding outlined_as
  by_front (refused n) e = e
  by_front (got y rest) e =
      let p = head-place y rest e in
      record {
        front = y;
        is = e ∙ ap (λ (l : List ℕ). got y l) p.0;
        within = p.1;
        map = refl;
        first = refl;
        count = refl;
        layout = (laid t).layout y;
        language = head-language y rest e;
        walked = ap (λ (l : Layout (form t).Row). records l y.count y.first (from b (records_at t b))) ((laid t).layout y);
      }

  outline-tells : tells t b (outline_of t b)
  unfolding outline_of
  outline-tells = by_front (fronted t b) refl

  module _ {r : Result Outline Refusal} (o : by_number r ≡ outline_of t b) where
    pub no-area : {n : Refusal} → r ≡ Err n → fronted t b ≡ refused (number n)
    no-area e = subst (λ (x : OrRefused Outline). tells t b x) (sym o ∙ ap by_number e) outline-tells

    pub an-area : {a : Outline} → r ≡ Ok a → Area t b a
    an-area e = subst (λ (x : OrRefused Outline). tells t b x) (sym o ∙ ap by_number e) outline-tells
