-- Where records stand: what `live_standing` lists of a live table that reads are its live records, each with the place of the store where its own bytes
-- are. So the label, a part of the store, is the name of the first live record with the channel's flag and number.
use Prim.Native.Nat.{ℕ, zero, suc, ◌+◌, ◌-◌, ◌≤◌, ◌<◌}
use native.Mathlib.Omega.{arith}
use mathlib.Core.Path.{◌≡◌, refl, sym, ap, subst, ◌∙◌}
use mathlib.Core.{Bool.Bool, Bool.true, Bool.false, List.List, List.[], List.◌∷◌, List.◌++◌, Option.none, Option.some}
use lib.ListN.{length, take, drop, length-take, length-drop}
use lib.Seq.{drop-drop, get_or-take, get_or-drop, length-take-le, take_all}
use Rattle.rules.specs.Gathering as Gathering
use Rattle.rules.specs.{Bytes.got, Bytes.byte, Bytes.from, Form.Front, Form.form, Tables.Name, Tables.name_of, Tables.ntt, Search.first, Search.sections}
use Rattle.rules.specs.Layout.{Block, extent, taken, Layout, Numbered, numbered, after, records}
use Rattle.rules.specs.Section.{length_of, header_of, Structure, in_front, structure, without_crc}
use Rattle.rules.specs.{Holding.section_at, Holding.live_at, Holding.read_for, declared.Table.Table, declared.State.State}
use Rattle.rules.specs.Tuning.{live_count, live_reading, records_in, live_section, live_records, table_reads}
use Rattle.rules.specs.declared.Table.TheVariants.{Ntt}
use Rattle.rules.specs.Labelling.{names_in}
use Rattle.rules.specs.Standing.{Standing, of_got, standing, standing_of, standing_in, live_standing}
use Rattle.rules.proofs.{Taken.then-got, Taken.giving-got, Taken.taken-got, Right.formal, Right.header-got, Right.reads_right, LivePlaces.table-says}
use Rattle.rules.proofs.{Asking.part-front, Places.from-from, Places.from-length, Places.entry_place, Search.more}

-- ---- bytes at a place of a live section stand in the store, that much behind the section's place

pub section-part : (store : List ℕ) (start at n : ℕ) → at + n ≤ length (without_crc (section_at store start))
    → take n (from (without_crc (section_at store start)) at) ≡ take n (from store (start + at))
unfolding without_crc Gathering.section_at from
section-part store start at n h =
    let place : List ℕ = take 1024 (drop start store) in
    let section : List ℕ = take (3 + length_of place) place in
    let inner : at + n ≤ length section = omega (arith, length-take (length section - 4) section) in
    let whole : at + n ≤ length place = omega (arith, length-take (3 + length_of place) place) in
    part-front (length section - 4) section at n h
    ∙ part-front (3 + length_of place) place at n inner
    ∙ part-front 1024 (drop start store) at n whole
    ∙ ap (take n) (drop-drop at start store)

-- ---- a record stands at a place: all of its own bytes are there, and it says what they say

pub record StandsAt {R : Type 0} (k : Block R) (store : List ℕ) (y : Standing R) : Type 0 where
  pub fits : y.at + extent k (from store y.at) ≤ length store
  pub says : y.row.what ≡ k.look (take (extent k (from store y.at)) (from store y.at))

-- each of a list does, and they are the records
abbrev pub Stand : {R : Type 0} → Block R → List ℕ → List (Standing R) → List (Numbered R) → Type 0
Stand k store [] [] = Unit {0}
Stand k store [] (r ∷ rs) = ⊥
Stand k store (y ∷ ys) [] = ⊥
Stand k store (y ∷ ys) (r ∷ rs) = StandsAt k store y × (y.row ≡ r) × Stand k store ys rs

module _ {R : Type 0} (k : Block R) (store : List ℕ) where
  stand-append : (ys zs : List (Standing R)) (rs qs : List (Numbered R)) → Stand k store ys rs → Stand k store zs qs → Stand k store (ys ++ zs) (rs ++ qs)
  stand-append [] zs [] qs a b = b
  stand-append [] zs (r ∷ rs) qs a b = elim a [ ]
  stand-append (y ∷ ys) zs [] qs a b = elim a [ ]
  stand-append (y ∷ ys) zs (r ∷ rs) qs a b = (a.0, a.1, stand-append ys zs rs qs a.2 b)

  -- the first that passes a test is the first record that passes it
  pub data FirstOf (test : Numbered R → Bool) (ys : List (Standing R)) (rs : List (Numbered R)) : Type 0 where
    nowhere : first (λ y. test y.row) ys ≡ none → first test rs ≡ none → FirstOf test ys rs
    there : (y : Standing R) → first (λ z. test z.row) ys ≡ some y → first test rs ≡ some y.row → StandsAt k store y → FirstOf test ys rs

  pub first_of : (test : Numbered R → Bool) (ys : List (Standing R)) (rs : List (Numbered R)) → Stand k store ys rs → FirstOf test ys rs
  unfolding first
  first_of test [] [] a = nowhere refl refl
  first_of test [] (r ∷ rs) a = elim a [ ]
  first_of test (y ∷ ys) [] a = elim a [ ]
  first_of test (y ∷ ys) (r ∷ rs) a = go (test y.row) refl (first_of test ys rs a.2)
    where
      same : {b : Bool} → test y.row ≡ b → test r ≡ b
      same e = ap test (sym a.1) ∙ e

      go : (b : Bool) → test y.row ≡ b → FirstOf test ys rs → FirstOf test (y ∷ ys) (r ∷ rs)
      go true e f = there y (rw e refl) (rw (same e) (ap some (sym a.1))) a.0
      go false e (nowhere p q) = nowhere (rw e p) (rw (same e) q)
      go false e (there z p q s) = there z (rw e p) (rw (same e) q) s

-- ---- the records of a section in a place

module _ {R : Type 0} (l : Layout R) (some_bytes : (bs : List ℕ) → 0 < extent l.block bs) (store : List ℕ) (start : ℕ) (b : List ℕ)
    (is : b ≡ without_crc (section_at store start)) where
  stands_here : (index at : ℕ) → extent l.block (from b at) ≤ length b - at
      → StandsAt l.block store (record { row = numbered l index (from b at); at = start + at })
  unfolding numbered
  stands_here index at h =
      let k = l.block in
      let n = extent k (from b at) in
      let some = some_bytes (from b at) in
      let inside : at + n ≤ length (without_crc (section_at store start)) = omega (arith, h, ap length is, some) in
      let same : (m : ℕ) → m ≤ n → take m (from store (start + at)) ≡ take m (from b at) =
      λ m f. sym (section-part store start at m (omega arith)) ∙ ap (λ (x : List ℕ). take m (from x at)) (sym is) in
      let long : extent k (from store (start + at)) ≡ n = ap (λ (r : List ℕ). k.size + k.more r) (same k.size (omega arith)) in
      let part : take (extent k (from store (start + at))) (from store (start + at)) ≡ take n (from b at) =
      ap (λ (m : ℕ). take m (from store (start + at))) long ∙ same n (omega arith) in
      let have : length (take n (from store (start + at))) ≡ length (take n (from b at)) = ap length (same n (omega arith)) in
      let room : n ≤ length (from store (start + at)) =
      omega (arith, have, length-take n (from store (start + at)), length-take n (from b at), from-length b at, h) in
      record { fits = omega (arith, long, room, from-length store (start + at), some); says = ap k.look (sym part) }

  stand-in : (n index at : ℕ) (rs : List (Numbered R)) (rest : List ℕ) → records l n index (from b at) ≡ got rs rest
      → Stand l.block store (standing l n index (start + length b) (from b at)) rs
  unfolding records standing of_got after numbered
  stand-in zero index at rs rest q = let z : rs ≡ [] = cc in subst (λ (x : List (Numbered R)). Stand l.block store [] x) (sym z) tt
  stand-in (suc n) index at rs rest q =
      let o = more l n index (from b at) rs rest q in
      let place = entry_place l index b at _ _ o.one in
      let fits : extent l.block (from b at) ≤ length b - at = rw (← from-length b at) o.whole.fits in
      let here : start + length b - length (from b at) ≡ start + at = omega (arith, from-length b at, fits, some_bytes (from b at)) in
      let next = index + l.takes (l.block.look (take (extent l.block (from b at)) (from b at))) in
      let others = stand-in n next place.0 o.others rest (rw (← place.1) o.more) in
      rw (o.is, o.one, here, place.1) (stands_here index at fits, refl, others)

-- ---- the records of a live table that reads

module _ (t : Table) (some_bytes : (y : Front) (bs : List ℕ) → 0 < extent ((form t).layout y).block bs) (store : List ℕ) where
  abbrev rows_of : Structure → List (Numbered (form t).Row)
  rows_of x = (form t).rows_in x.lists

  standing-got : (end : ℕ) (b : List ℕ) (front : Front) (behind : List ℕ) → taken (header_of (form t)) (form t).limits b ≡ got front behind
      → (y : Front) (rest : List ℕ) → in_front (form t) front behind ≡ got y rest
      → standing_of (form t) end b ≡ standing ((form t).layout y) y.count y.first end rest
  unfolding standing_of of_got
  standing-got end b front behind e y rest q = rw (e, q) refl

  -- of a section in a place, by its header and its structure
  stand-built : (start : ℕ) (b : List ℕ) → b ≡ without_crc (section_at store start) → (front : Front) (behind : List ℕ) (x : Structure) (tail : List ℕ)
      → taken (header_of (form t)) (form t).limits b ≡ got front behind → structure (form t) front behind ≡ got x tail
      → (y : Front) × Stand ((form t).layout y).block store (standing_of (form t) (start + length b) b) (rows_of x)
  unfolding structure in_front
  stand-built start b is front behind x tail e q =
      let k = taken-got _ _ b front behind e in
      let s = then-got _ _ _ _ q in
      let y = s.value in
      let g = giving-got _ _ _ _ s.one in
      let h = taken-got (form t).head (λ h. true) behind g.0 s.behind g.1 in
      let m = extent (header_of (form t)) b in
      let n = extent (form t).head behind in
      let at : s.behind ≡ from b (m + n) = h.behind ∙ ap (λ (l : List ℕ). from l n) k.behind ∙ from-from b m n in
      let r = giving-got _ _ _ _ s.more in
      let listed : rows_of x ≡ r.0 = ap rows_of r.2 ∙ (formal t).lists r.0 in
      let rows : records ((form t).layout y) y.count y.first (from b (m + n)) ≡ got r.0 tail =
      ap (records ((form t).layout y) y.count y.first) (sym at) ∙ r.1 in
      let stand = stand-in ((form t).layout y) (some_bytes y) store start b is y.count y.first (m + n) r.0 tail rows in
      let there = standing-got (start + length b) b front behind e y s.behind s.one
      ∙ ap (standing ((form t).layout y) y.count y.first (start + length b)) at in (
        y,
        subst (λ (ys : List (Standing (form t).Row)). Stand ((form t).layout y).block store ys (rows_of x)) (sym there)
            (subst (λ (rs : List (Numbered (form t).Row)).
            Stand ((form t).layout y).block store (standing ((form t).layout y) y.count y.first (start + length b) (from b (m + n))) rs)
            (sym listed) stand),
      )

  -- of a section of a live table, and of all of them
  stand_live : (s : State) → table_reads s store t ≡ true → (i : ℕ) → i < live_count s t
      → (y : Front) × Stand ((form t).layout y).block store (standing_in s store t i) (live_section rows_of s store t i)
  unfolding live_section live_reading read_for records_in standing_in
  stand_live s reads i h =
      let section = section_at store (live_at s t i) in
      let place = table-says s store t reads i h in
      let made = (reads_right section place.content place.reads).made in
      let head = (header-got _ _ made.behind made.headed).block in
      rw place.reads (stand-built (live_at s t i) (without_crc section) refl made.front made.behind place.content.structure made.tail
      (ap (λ (u : Table). taken (header_of (form u)) (form u).limits (without_crc section)) (sym place.table) ∙ head)
      (ap (λ (u : Table). structure (form u) made.front made.behind) (sym place.table) ∙ made.built))

-- ---- names

name-bytes : (bs : List ℕ) → 0 < extent ntt.block bs
unfolding ntt
name-bytes bs = omega arith

module _ (s : State) (store : List ℕ) (reads : table_reads s store Ntt ≡ true) where
  stand_names : (m i : ℕ) → live_count s Ntt ≡ m + i
      → Stand ntt.block store (sections (standing_in s store Ntt) m i) (sections (live_section names_in s store Ntt) m i)
  unfolding sections
  stand_names zero i e = tt
  stand_names (suc m) i e =
      stand-append ntt.block store (standing_in s store Ntt i) (sections (standing_in s store Ntt) m (i + 1)) (live_section names_in s store Ntt i)
      (sections (live_section names_in s store Ntt) m (i + 1)) (stand_live Ntt (λ y. name-bytes) store s reads i (omega (arith, e))).1
      (stand_names m (i + 1) (omega (arith, e)))

  pub names_stand : Stand ntt.block store (live_standing s store Ntt) (live_records names_in s store Ntt)
  unfolding live_standing live_records
  names_stand = stand_names (live_count s Ntt) 0 (omega arith)

-- a name that stands at a place: its length stands behind the flag and the number, and behind that stands the name itself
module _ (store : List ℕ) (y : Standing Name) (a : StandsAt ntt.block store y) where
  abbrev n : ℕ
  n = byte 3 (take 4 (from store y.at))

  size-at : n ≡ byte (y.at + 3) store
  unfolding byte from
  size-at = get_or-take 4 (drop y.at store) 3 0 (omega arith) ∙ get_or-drop y.at store 3 0

  fits : y.at + (4 + n) ≤ length store
  unfolding ntt
  fits = a.fits

  -- the bytes behind the first four of the record are those four further on in the store
  behind-four : drop 4 (take (4 + n) (drop y.at store)) ≡ take n (drop (y.at + 4) store)
  behind-four =
      let l = drop y.at store in
      let room : 4 + n ≤ length l = omega (arith, fits, length-drop y.at store) in
      let whole : length (take (4 + n) l) ≡ 4 + n = length-take-le (4 + n) l room in
      let rest : length (drop 4 (take (4 + n) l)) ≡ n = length-drop 4 (take (4 + n) l) ∙ omega (arith, whole) in
      sym (take_all n (drop 4 (take (4 + n) l)) (omega (arith, rest))) ∙ part-front (4 + n) l 4 n (omega (arith, whole))
      ∙ ap (take n) (drop-drop 4 y.at store)

  is_name : y.row.what.name ≡ take n (drop (y.at + 4) store)
  unfolding ntt name_of from
  is_name = ap (λ (x : Name). x.name) a.says ∙ behind-four

  long : length y.row.what.name ≡ n
  long = ap length is_name ∙ length-take-le n (drop (y.at + 4) store) (omega (arith, fits, length-drop (y.at + 4) store))

  pub name_long : length y.row.what.name ≡ byte (y.at + 3) store
  name_long = long ∙ size-at

  pub name-there : take (length y.row.what.name) (drop (y.at + 4) store) ≡ y.row.what.name
  name-there = ap (λ (m : ℕ). take m (drop (y.at + 4) store)) long ∙ sym is_name

  pub name-fits : y.at + 4 + length y.row.what.name ≤ length store
  name-fits = omega (arith, fits, long)
