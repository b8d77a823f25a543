-- A second collector, in small: one table, so many sections as its state says, places of 4,096 bytes, and a reader of its own. It is no part of
-- the box; it shows that what is promised of gathering is promised of more than the box: its record, its laws, and one line.
use Prim.Native.Nat.{ℕ, ◌+◌, ◌%◌}
use native.Mathlib.Omega.{arith}
use mathlib.Core.Path.{◌≡◌, refl, subst}
use mathlib.Core.Bool.{Bool, true, false, cond, not, ◌&&◌}
use mathlib.Core.List.{List, [], ◌∷◌}
use lib.Dec.{leb, ltb, eqb, lit<}
use lib.ListN.{length, replicate}
use borrow.Author.Tests.{leb-true, eqb-true, ltb-false}
use Rattle.rules.specs.Bytes.{byte}
use Rattle.rules.specs.Section.{wrong, right, length_of}
use Rattle.rules.specs.Steps.{fresh_holding, holding_formed}
use Rattle.rules.specs.Formed.{Formed}
use Rattle.rules.specs.Gathering.{Collector, BoxOf, place_of, store_size, section_at, live_at, answers, run}
use Rattle.rules.specs.Offering.{Promised, Wanted, NoneOther}
use Rattle.rules.specs.declared.Holding.{Holding}
use Rattle.rules.specs.declared.Revision.{Revision}
use Rattle.rules.specs.declared.Answer.TheVariants.{OtherMap, Repeat, Stored, Live}
use Rattle.rules.proofs.Hex.{hex}
use Rattle.rules.proofs.Computed.{computed}
use Rattle.rules.proofs.Truths.{both_left, both_right}
use Rattle.rules.proofs.Right.{one_right, not_right}
use Rattle.rules.proofs.{Formed.formed, Formed.forms}
use Rattle.rules.proofs.Lawful.{Fits, Lawful}
use Rattle.rules.proofs.Gathers.{Gathers, gathers}
use Rattle.rules.specs.Refusals.{OrRefused}

-- ---- its tables, states and contents

pub data OneTable : Type 0 where
  only : OneTable

pub record OneState : Type 0 where
  pub map : ℕ
  pub limit : ℕ
  pub held : Holding

pub record Page : Type 0 where
  pub map : ℕ
  pub revision : Revision

-- ---- its reader: length as in the box, up to 4,096 bytes; map number, version, number and last in four bytes

unfoldable pub page_fits : List ℕ → Bool
page_fits s = leb 7 (length s) && eqb (length s) (3 + length_of s) && leb (length_of s) 4093

unfoldable pub page : List ℕ → Page
page s =
    record {
      map = byte 3 s;
      revision = record { version = byte 4 s % 32; number = byte 5 s; last = byte 6 s };
    }

unfoldable pub read_page : List ℕ → OrRefused Page
read_page s = cond (page_fits s) (cond (ltb (byte 6 s) (byte 5 s)) (wrong 11) (right (page s))) (wrong 3)

unfoldable pub other_page : OneState → Page → Bool
other_page s c = not (eqb c.map s.map)

abbrev pub second : Collector OneTable OneState Page
second =
    record {
      index = λ t. 0;
      tables = 1;
      size = 4096;
      holding = λ s t. s.held;
      with = λ s t h. record { map = s.map; limit = s.limit; held = h };
      limit = λ s. s.limit;
      formed = λ s. holding_formed s.limit s.held;
      Formed = λ s. Formed s.limit s.held;
      read = λ s section. read_page section;
      table = λ c. only;
      revision = λ c. c.revision;
      aside = other_page;
      Aside = λ s c. other_page s c ≡ true;
      word = λ s c. right OtherMap;
    }

-- ---- its laws

one_table : (t u : OneTable) → t ≡ u
one_table only only = refl

fits : (s : List ℕ) (c : Page) → read_page s ≡ right c → Fits 4096 s c.revision
unfolding read_page page_fits page
fits s c e = go (page_fits s) (ltb (byte 6 s) (byte 5 s)) refl refl
  where
    go : (x y : Bool) → page_fits s ≡ x → ltb (byte 6 s) (byte 5 s) ≡ y → Fits 4096 s c.revision
    go false y ex ey = absurd (not_right 3 c (simp ex at e))
    go true true ex ey = absurd (not_right 11 c (simp (ex, ey) at e))
    go true false ex ey =
        let is : page s ≡ c = one_right (simp (ex, ey) at e) in
        let two = both_left (leb 7 (length s) && eqb (length s) (3 + length_of s)) (leb (length_of s) 4093) ex in
        let whole = eqb-true (length s) (3 + length_of s) (both_right (leb 7 (length s)) _ two) in
        let many = leb-true 7 (length s) (both_left (leb 7 (length s)) _ two) in
        let few = leb-true (length_of s) 4093 (both_right (leb 7 (length s) && eqb (length s) (3 + length_of s)) _ ex) in
        subst (λ (d : Page). Fits 4096 s d.revision) is
        (record { version = omega arith; number = ltb-false _ _ ey; long = omega (arith, many); short = omega (arith, few, whole); whole = whole })

with_aside : (s : OneState) (t : OneTable) (h : Holding) (c : Page) → second.aside (second.with s t h) c ≡ second.aside s c
unfolding other_page
with_aside s t h c = refl

second-lawful : Lawful second
second-lawful =
    record {
      index_lt = λ t. lit< tt;
      same_index = λ t u e. one_table t u;
      with_same = λ s t h. refl;
      with_own = λ s t. refl;
      with_other = λ s t u h ne. absurd (ne (one_table t u));
      with_limit = λ s t h. refl;
      with_read = λ s t h section. refl;
      with_aside = with_aside;
      formed_says = λ s. formed s.limit s.held;
      formed_so = λ s. forms s.limit s.held;
      table_formed = λ s t e. e;
      with_formed = λ s t h e f. f;
      reads_right = λ s. fits;
      aside_says = λ s c e. e;
      aside_so = λ s c e. e;
      word_out = λ s c. refl;
    }

-- ---- so all that is promised of gathering holds of it; one sentence of it in full

pub second-gathers : Gathers second
second-gathers = gathers second second-lawful

-- ---- the same, but that it sets a section of another map aside by a refusal: all of it holds of that one too

abbrev pub refusing : Collector OneTable OneState Page
refusing =
    record {
      index = second.index;
      tables = second.tables;
      size = second.size;
      holding = second.holding;
      with = second.with;
      limit = second.limit;
      formed = second.formed;
      Formed = second.Formed;
      read = second.read;
      table = second.table;
      revision = second.revision;
      aside = second.aside;
      Aside = second.Aside;
      word = λ s c. wrong 12;
    }

refusing-lawful : Lawful refusing
refusing-lawful =
    let law = second-lawful in
    record {
      index_lt = law.index_lt;
      same_index = law.same_index;
      with_same = law.with_same;
      with_own = law.with_own;
      with_other = law.with_other;
      with_limit = law.with_limit;
      with_read = law.with_read;
      with_aside = law.with_aside;
      formed_says = law.formed_says;
      formed_so = law.formed_so;
      table_formed = law.table_formed;
      with_formed = law.with_formed;
      reads_right = law.reads_right;
      aside_says = law.aside_says;
      aside_so = law.aside_so;
      word_out = λ s c. refl;
    }

pub refusing-gathers : Gathers refusing
refusing-gathers = gathers refusing refusing-lawful

pub second-any-order : (b : BoxOf OneState) (v last n : ℕ) (x : List ℕ) (xs : List (List ℕ)) → Promised second b only v last (x ∷ xs)
    → Wanted second b.state only v last n x
    → NoneOther second b.state only v last xs → (run second b (x ∷ xs)).state.held.live ≡ record { present = 1; version = v; last = last }
second-any-order b = second-gathers.in_any_order b only

-- ---- and it computes: two sections of six, another map, one again, a last number above five; and a store that is too short

abbrev pub fresh_second : (size : ℕ) → BoxOf OneState
fresh_second size =
    record { state = record { map = 7; limit = 6; held = fresh_holding }; store = replicate size 0 }

pub record SecondComputed : Type 0 where
  pub places : place_of second 6 only 1 2 ∷ store_size second 6 ∷ [] ≡ 32768 ∷ 49152 ∷ []
  pub offers :
      answers second (fresh_second 49152)
      (hex "01 00 04 07 05 05 05"
      ∷ hex "01 00 04 08 05 00 05"
      ∷ hex "01 00 04 07 05 05 05"
      ∷ hex "01 00 04 07 05 00 05"
      ∷ hex "01 00 04 07 06 00 06"
      ∷ hex "01 00 04 07 06 00 00"
      ∷ [])
      ≡ right (Stored 5) ∷ right OtherMap ∷ right Repeat ∷ right (Stored 4) ∷ wrong 12 ∷ right (Live 6) ∷ []
  -- which section is live: the first since its gathering began. Version 5 is gathered, dropped for 6, and begun again; of its number 0 four came
  pub first_since :
      (let b = run second (fresh_second 49152)
      (hex "01 00 05 07 05 00 01 AA"
      ∷ hex "01 00 05 07 05 00 01 BB"
      ∷ hex "01 00 05 07 06 00 01 66"
      ∷ hex "01 00 05 07 05 00 01 CC"
      ∷ hex "01 00 05 07 05 00 01 DD"
      ∷ hex "01 00 05 07 05 01 01 EE"
      ∷ hex "01 00 05 07 05 00 01 FF"
      ∷ []) in
      section_at second b.store (live_at second b.state only 0) ∷ section_at second b.store (live_at second b.state only 1) ∷ [])
      ≡ hex "01 00 05 07 05 00 01 CC" ∷ hex "01 00 05 07 05 01 01 EE" ∷ []
  pub short : answers second (fresh_second 49151) (hex "01 00 04 07 06 00 00" ∷ []) ≡ wrong 1 ∷ []
  -- set aside by a refusal
  pub aside_refused : answers refusing (fresh_second 49152) (hex "01 00 04 07 05 05 05" ∷ hex "01 00 04 08 05 00 05" ∷ []) ≡ right (Stored 5) ∷ wrong 12 ∷ []

pub second-computed : SecondComputed
unfolding computed page_fits page read_page other_page
second-computed = record { places = refl; offers = refl; first_since = refl; short = refl; aside_refused = refl }
