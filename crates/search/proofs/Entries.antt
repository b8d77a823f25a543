-- The one fact that the searches for channels, carriers, modes and ranges share, and the listings too: going on section by section and record by
-- record, and leaving at the first match, finds the entry of the first match of all. Outside and Inside are what holds at the two loops.
use Prim.Native.Nat.{ℕ, zero, suc, ◌+◌, ◌-◌, ◌*◌, ◌^◌, ◌≤◌, ◌<◌}
use Rattle.std.proofs.lemmas.List.{append-nil}
use native.Mathlib.{Omega.arith, Numerals.add-one, Nat.sub-zero}
use mathlib.Core.Path.{◌≡◌, refl, sym, ap, ap₂, subst, ◌∙◌}
use mathlib.Core.Bool.{Bool, true, false, cond}
use mathlib.Core.List.{List, [], ◌∷◌, ◌++◌}
use Rattle.std.proofs.Math.Option.{Option, some}
use lib.ListN.{length, take, drop, get_or}
use lib.Seq.{get_or-take}
use lib.Dec.{eqb}
use Rattle.rules.specs.{Bytes.Got, Bytes.refused, Bytes.got, Bytes.from, Descriptors.counted}
use Rattle.rules.specs.{Section.without_crc, Holding.section_at, Holding.live_at}
use Rattle.rules.specs.{Search.first, Search.sections, declared.Table.Table, declared.State.State}
use Rattle.rules.specs.Layout.{extent, Layout, Numbered, numbered, entry, after, records}
use Rattle.rules.specs.Tables.{cds, mms, vcm, dcm, ntt, channel_of, name_of}
use Rattle.rules.specs.{Bytes.byte, Label.is_name}
use Rattle.rules.specs.Tuning.{covers, is_carrier, is_mode, is_channel, is_range, live_count}
use Rattle.rules.specs.declared.Table.TheVariants.{Cds, Mms, Vcm, Dcm, Ntt}
use Rattle.rules.proofs.Search.{sections-more, sections_none, More, more}
use Rattle.rules.proofs.Places.{from-from, from-length}
use Rattle.fields.specs.{Outline.layout_of, Outline.outline_of, declared.Outline.Outline}
use Rattle.fields.specs.Place.{here}
use Rattle.fields.proofs.Outlines.{laid}
use Rattle.fields.proofs.Laws.{part-whole}
use Rattle.rules.specs.Standing.{Standing, of_got, standing, standing_in, live_standing}
use Rattle.search.specs.Entries.{Live, RecordOf, Alike, descriptors, test_of, span_of, outline_in, entry_number, entry_by, entry_of}
use Rattle.search.proofs.{Marks.covers_one, Marks.covers-none, Sections.section-short, Sections.low-live, Sections.live-walk}

-- ---- by the table: the numbers that a record goes by

record Spans (t : Table) (included index : ℕ) (bs : List ℕ) : Type 0 where
  goes_by : (x : ℕ) → test_of t x (numbered (layout_of t included) index bs) ≡ covers (span_of t index bs).first (span_of t index bs).count x
  counts : (span_of t index bs).takes
      ≡ (layout_of t included).takes ((layout_of t included).block.look (take (extent (layout_of t included).block bs) bs))

spans : (t : Table) (included index : ℕ) (bs : List ℕ) → Spans t included index bs
unfolding is_carrier is_mode is_channel is_range span_of numbered cds mms vcm dcm ntt
spans Cds included index bs = record { goes_by = λ x. refl; counts = refl }
spans Mms included index bs = record { goes_by = λ x. sym (covers_one index x); counts = refl }
spans Vcm included index bs = record { goes_by = λ x. sym (covers_one _ x); counts = refl }
spans Dcm included index bs = record { goes_by = λ x. refl; counts = refl }
spans Ntt included index bs = record { goes_by = λ x. sym (covers-none x); counts = refl }

-- ---- the two loops

number_of : {R : Type 0} (b : Bool) (y : Standing R) (o : Option (Standing R))
    → entry_number (cond b (some y) o) ≡ cond b (entry_number (some y)) (entry_number o)
number_of true y o = refl
number_of false y o = refl

-- an entry, or else another
abbrev pub or_else : ℕ → ℕ → ℕ
or_else zero later = later
or_else (suc n) later = suc n

pub has : (entry later : ℕ) → (entry ≡ 0 → ⊥) → or_else entry later ≡ entry
has zero later h = absurd (h refl)
has (suc n) later h = refl

-- the first match of some records and then others is that of the former, or else that of the latter
entry-append : {R : Type 0} (test : Standing R → Bool) (xs ys : List (Standing R))
    → entry_number (first test (xs ++ ys)) ≡ or_else (entry_number (first test xs)) (entry_number (first test ys))
unfolding first entry_number
entry-append test [] ys = refl
entry-append test (x ∷ xs) ys = go (test x) (entry-append test xs ys)
  where
    go : (q : Bool) → entry_number (first test (xs ++ ys)) ≡ or_else (entry_number (first test xs)) (entry_number (first test ys))
        → entry_number (cond q (some x) (first test (xs ++ ys)))
        ≡ or_else (entry_number (cond q (some x) (first test xs))) (entry_number (first test ys))
    go true e = sym (has _ _ (λ z. omega arith))
    go false e = e

-- one record, and those behind it
standing-step : {R : Type 0} (l : Layout R) (test : Numbered R → Bool) (m index end : ℕ) (bs behind : List ℕ) (tail : List (Standing R)) (place : ℕ)
    → entry l index bs ≡ got (numbered l index bs) behind → end - length bs ≡ place
    → entry_number (first (λ y. test y.row) (standing l (suc m) index end bs ++ tail))
    ≡ cond (test (numbered l index bs)) (1 + place + index * 2 ^ 32)
    (entry_number (first (λ y. test y.row) (standing l m (index + l.takes (l.block.look (take (extent l.block bs) bs))) end behind ++ tail)))
unfolding first standing of_got after numbered entry_number
standing-step l test m index end bs behind tail place e p =
    rw (e, p) (number_of (test (numbered l index bs)) (record { row = numbered l index bs; at = place }) _)

module _ (s : State) (store : List ℕ) (t : Table) (test : Numbered (RecordOf t) → Bool) where
  abbrev goes : Standing (RecordOf t) → Bool
  goes y = test y.row

  abbrev pub on_from : ℕ → List (Standing (RecordOf t))
  on_from i = sections (standing_in s store t) (live_count s t - i) i

  -- before section i: the entry from there on
  pub record Outside (i later : ℕ) : Type 0 where
    pub is : entry_number (first goes (on_from i)) ≡ later

  -- within a section, whose bytes stand at a place of the store: so many of its records are left at a place of these bytes, the first of them
  -- with this index, and then come others, as those of the sections behind it
  pub record Inside (others : List (Standing (RecordOf t))) (included start left index : ℕ) (b : List ℕ) (at later : ℕ) : Type 0 where
    pub low : start + length b < 2 ^ 31
    pub rs : List (Numbered (RecordOf t))
    pub rest : List ℕ
    pub reads : records (layout_of t included) left index (from b at) ≡ got rs rest
    pub is : entry_number (first goes (standing (layout_of t included) left index (start + length b) (from b at) ++ others)) ≡ later

  pub set_out : Outside 0 (entry_by s store t test)
  unfolding entry_by live_standing
  set_out = record { is = rw sub-zero }

  -- behind the last section there is no match
  pub none_left : {i later : ℕ} → Outside i later → live_count s t ≤ i → 0 ≡ later
  unfolding first entry_number
  none_left {i} o h = rw (sections_none (standing_in s store t) (live_count s t) i h) at o.is

  -- the records from section i on are its own and then those of the sections behind it
  pub section-on : {i later : ℕ} → Outside i later → i < live_count s t
      → entry_number (first goes (standing_in s store t i ++ on_from (i + 1))) ≡ later
  section-on {i} out h = rw (← sections-more (standing_in s store t) (live_count s t) i h) out.is

  -- so the entry of the first match in it is the one, or else that of those behind it
  module _ {i later entry : ℕ} (out : Outside i later) (h : i < live_count s t) (e : entry ≡ entry_number (first goes (standing_in s store t i))) where
    or_behind : or_else entry (entry_number (first goes (on_from (i + 1)))) ≡ later
    or_behind =
        ap (λ (m : ℕ). or_else m (entry_number (first goes (on_from (i + 1))))) e
        ∙ sym (entry-append goes (standing_in s store t i) (on_from (i + 1))) ∙ section-on out h

    pub found_in : (entry ≡ 0 → ⊥) → entry ≡ later
    found_in n = sym (has entry _ n) ∙ or_behind

    pub none_in : entry ≡ 0 → Outside (i + 1) later
    none_in z = record { is = rw z at or_behind }

  -- into section i, whose records stand at its outline
  pub go-in : {i later : ℕ} → Live s store t → i < live_count s t → (b : List ℕ) (o : Outline) (start : ℕ)
      → b ≡ without_crc (section_at store (live_at s t i)) → o ≡ outline_in (outline_of t b) → start ≡ live_at s t i
      → (others : List (Standing (RecordOf t))) → entry_number (first goes (standing_in s store t i ++ others)) ≡ later
      → Inside others o.included start o.count o.first b o.at later
  go-in {i} live h b o start p q e others is =
      let k = live-walk s store t live i h b p o q in
      record {
        low = omega (arith, e, low-live s store t live i h, ap length p, section-short store (live_at s t i));
        rs = _;
        rest = k.0;
        reads = k.1;
        is = ap (λ (l : List (Standing (RecordOf t))). entry_number (first goes (l ++ others))) (here k.2) ∙ is;
      }
    where
      here : standing_in s store t i ≡ standing (layout_of t o.included) o.count o.first (live_at s t i + length b) (from b o.at)
          → standing (layout_of t o.included) o.count o.first (start + length b) (from b o.at) ≡ standing_in s store t i
      here k = rw e (sym k)

  module _ {others : List (Standing (RecordOf t))} {included start left index : ℕ} {b : List ℕ} {at later : ℕ}
      (w : Inside others included start left index b at later) where
    -- a layout that doesn't ask for the included bit is the same with any
    pub any-bit : layout_of t included ≡ layout_of t 0 → Inside others 0 start left index b at later
    any-bit e = record { low = w.low; rs = w.rs; rest = w.rest; reads = rw (← e) w.reads; is = rw (← e) w.is }

    -- and out of it, where no record is left
    pub go-out : left ≤ 0 → entry_number (first goes others) ≡ later
    unfolding standing
    go-out h = let e : left ≡ 0 = omega arith in rw e at w.is

    one : (m : ℕ) → left ≡ m + 1 → More (layout_of t included) m index (from b at) w.rs w.rest
    one m e =
        more (layout_of t included) m index (from b at) w.rs w.rest
        (ap (λ (k : ℕ). records (layout_of t included) k index (from b at)) (sym (e ∙ add-one m)) ∙ w.reads)

    there : 0 < left → More (layout_of t included) (left - 1) index (from b at) w.rs w.rest
    there h = one (left - 1) (omega arith)

    -- a whole record stands there
    pub fits : 0 < left → extent (layout_of t included).block (from b at) ≤ length b - at
    fits h = rw (← from-length b at) (there h).whole.fits

    -- at a place inside the bytes
    inside : 0 < left → at < length b
    inside h = omega (arith, fits h, (laid t).size included (from b at), (laid t).some (from b at))

    -- and of the store
    pub small : 0 < left → start + at < 2 ^ 31
    small h = omega (arith, w.low, inside h)

    -- so passing over it is never refused
    pub never : {k : ℕ} → 0 < left → descriptors t included b at ≡ refused k → ⊥
    never h e =
        let c : descriptors t included b at ≡ got tt (there h).behind =
        rw (← from-from b at (extent (layout_of t included).block (from b at))) (there h).whole.behind in
        let z : ◌≡◌ {A = ℕ} 0 1 = cc in
        omega arith

    -- where it is passed m records are left, the next of them with its index and at its place: whatever is the entry from there on, it is
    -- the one that is looked for unless the record itself passes the test
    pub onward : {m next place : ℕ} → left ≡ m + 1 → next ≡ index + (layout_of t included).takes (here (layout_of t included) b at)
        → descriptors t included b at ≡ got tt (from b place)
        → (on : ℕ) × Inside others included start m next b place on
        × (later ≡ cond (test (numbered (layout_of t included) index (from b at))) (1 + (start + at) + index * 2 ^ 32) on)
    onward {m} {next} {place} f counts c =
        let l = layout_of t included in
        let o = one m f in
        let next-at = at-behind c o.whole.behind in
        let stands : start + length b - length (from b at) ≡ start + at = omega (arith, from-length b at, inside (omega arith)) in
        let is : entry_number (first goes (standing l (suc m) index (start + length b) (from b at) ++ others))
        ≡ later = rw (← (f ∙ add-one m)) w.is in (
          _,
          record { low = w.low; rs = o.others; rest = w.rest; reads = rw (counts, ← next-at) o.more; is = refl },
          sym is ∙ standing-step l test m index (start + length b) (from b at) o.behind others (start + at) o.one stands
              ∙ ap₂ (λ (n : ℕ) (rest : List ℕ). cond (test (numbered l index (from b at))) (1 + (start + at) + index * 2 ^ 32)
              (entry_number (first goes (standing l m n (start + length b) rest ++ others)))) (sym counts) next-at,
        )
      where
        at-behind : {rest : List ℕ} → descriptors t included b at ≡ got tt (from b place)
            → counted (layout_of t included).described (from (from b at) (extent (layout_of t included).block (from b at))) ≡ got tt rest
            → rest ≡ from b place
        at-behind c d = let e = from-from b at (extent (layout_of t included).block (from b at)) in cc

    -- if it passes its entry is the one
    pub match_by : (place : ℕ) → 0 < left → test (numbered (layout_of t included) index (from b at)) ≡ true
        → descriptors t included b at ≡ got tt (from b place)
        → 1 + (start + at) + index * 2 ^ 32 ≡ later
    match_by place h c p = let o = onward {m = left - 1} {place = place} (omega arith) refl p in sym (rw c at o.2)

    -- and if it does not it is that of those behind it
    pub pass-by : {m next place : ℕ} → left ≡ m + 1 → next ≡ index + (layout_of t included).takes (here (layout_of t included) b at)
        → descriptors t included b at ≡ got tt (from b place)
        → test (numbered (layout_of t included) index (from b at)) ≡ false → Inside others included start m next b place later
    pass-by {m} {next} {place} f g p c =
        let o = onward f g p in
        let q : later ≡ o.0 = rw c at o.2 in
        subst (λ (y : ℕ). Inside others included start m next b place y) (sym q) o.1

-- ---- a search within a section, whose code asks the records' bytes by a layout of its own that is asked the same

module _ {Q : Type 0} (l : Layout Q) (s : State) (store : List ℕ) (t : Table) (test : Numbered (RecordOf t) → Bool) where
  -- so many of the records of section i are left, and the entry of the first match of them is that of the first of all
  pub record Seeks (i start left index : ℕ) (b : List ℕ) (at : ℕ) : Type 0 where
    pub included : ℕ
    pub alike : Alike l (layout_of t included)
    pub ahead : Inside s store t test [] included start left index b at (entry_number (first (λ x. test x.row) (standing_in s store t i)))

  pub seek : {i : ℕ} → Live s store t → i < live_count s t → (b : List ℕ) (o : Outline) (start : ℕ)
      → b ≡ without_crc (section_at store (live_at s t i)) → o ≡ outline_in (outline_of t b) → start ≡ live_at s t i
      → Alike l (layout_of t o.included)
      → Seeks i start o.count o.first b o.at
  seek {i} live h b o start p q e alike =
      record {
        included = o.included;
        alike = alike;
        ahead =
            go-in s store t test live h b o start p q e []
            (ap (λ (ys : List (Standing (RecordOf t))). entry_number (first (λ x. test x.row) ys)) (append-nil (standing_in s store t i)));
      }

  -- the record at a place has so many bytes
  module _ {i start left index : ℕ} {b : List ℕ} {at size : ℕ} (w : Seeks i start left index b at) (e : size ≡ extent l.block (from b at)) where
    size-is : size ≡ extent (layout_of t w.included).block (from b at)
    size-is = e ∙ w.alike.size (from b at)

    counted-is : {described : Bool} → described ≡ l.described → {g : Got (Unit {0})} → counted described (from b (at + size)) ≡ g
        → descriptors t w.included b at ≡ g
    counted-is d c = rw (← size-is, ← w.alike.described, ← d) c

    abbrev read : Numbered (RecordOf t)
    read = record { index = index; what = (layout_of t 0).block.look (take (at + size - at) (drop at b)) }

    says-is : read ≡ numbered (layout_of t w.included) index (from b at)
    unfolding numbered
    says-is =
        let says : ℕ → Numbered (RecordOf t) = λ n. record { index = index; what = (layout_of t 0).block.look (take n (from b at)) } in
        rw (part-whole b at size)
        (ap says (size-is ∙ sym ((laid t).size w.included (from b at))) ∙ (laid t).says w.included index (from b at))

    pub seek-fits : 0 < left → size ≤ length b - at
    seek-fits h = rw size-is (fits s store t test w.ahead h)

    pub seek-small : 0 < left → start + at < 2 ^ 31
    seek-small h = small s store t test w.ahead h

    module _ {described : Bool} (d : described ≡ l.described) where
      pub seek-never : {k : ℕ} → 0 < left → counted described (from b (at + size)) ≡ refused k → ⊥
      seek-never h c = never s store t test w.ahead h (counted-is d c)

      module _ (place : ℕ) (c : counted described (from b (at + size)) ≡ got tt (from b place)) {found : Bool} (f : found ≡ test read) where
        pub hit : 0 < left → found ≡ true → 1 + (start + at) + index * 2 ^ 32 ≡ entry_number (first (λ x. test x.row) (standing_in s store t i))
        hit h z = match_by s store t test w.ahead place h (ap test (sym says-is) ∙ sym f ∙ z) (counted-is d c)

        pub miss : {m next takes : ℕ} → left ≡ m + 1 → next ≡ index + takes → takes ≡ l.takes (l.block.look (take (at + size - at) (drop at b)))
            → found ≡ false → Seeks i start m next b place
        miss {next = next} {takes = takes} h n k z =
            let counts : takes ≡ (layout_of t w.included).takes (here (layout_of t w.included) b at) =
            k ∙ w.alike.takes _ ∙ rw (part-whole b at size, size-is) refl in
            record {
              included = w.included;
              alike = w.alike;
              ahead =
                  pass-by s store t test w.ahead h (n ∙ ap (λ (x : ℕ). index + x) counts) (counted-is d c)
                  (ap test (sym says-is) ∙ sym f ∙ z);
            }

  -- no match in it
  pub seek-none : {i start left index : ℕ} {b : List ℕ} {at : ℕ} → Seeks i start left index b at → left ≤ 0
      → 0 ≡ entry_number (first (λ x. test x.row) (standing_in s store t i))
  unfolding first entry_number
  seek-none w h = go-out s store t test w.ahead h

-- ---- of records that go by a number: those of the span that covers it

pub set-off : (s : State) (store : List ℕ) (t : Table) (x : ℕ) → Outside s store t (test_of t x) 0 (entry_of s store t x)
unfolding entry_of
set-off s store t x = set_out s store t (test_of t x)

module _ (s : State) (store : List ℕ) (t : Table) (x : ℕ) {others : List (Standing (RecordOf t))} {included start left index : ℕ} {b : List ℕ}
    {at later : ℕ} (w : Inside s store t (test_of t x) others included start left index b at later) where
  abbrev covered : Bool
  covered = covers (span_of t index (from b at)).first (span_of t index (from b at)).count x

  pub onward-in : {m next place takes : ℕ} → left ≡ m + 1 → next ≡ index + takes → takes ≡ (span_of t index (from b at)).takes
      → descriptors t included b at ≡ got tt (from b place)
      → (on : ℕ) × Inside s store t (test_of t x) others included start m next b place on
      × (later ≡ cond covered (1 + (start + at) + index * 2 ^ 32) on)
  onward-in f g k c =
      let like = spans t included index (from b at) in
      let o = onward s store t (test_of t x) w f (g ∙ ap (λ (n : ℕ). index + n) (k ∙ like.counts)) c in
      (o.0, o.1, o.2 ∙ ap (λ (q : Bool). cond q (1 + (start + at) + index * 2 ^ 32) o.0) (like.goes_by x))

  pub match : (place : ℕ) → 0 < left → covered ≡ true → descriptors t included b at ≡ got tt (from b place)
      → 1 + (start + at) + index * 2 ^ 32 ≡ later
  match place h c p = match_by s store t (test_of t x) w place h ((spans t included index (from b at)).goes_by x ∙ c) p

  pub pass : {m next place takes : ℕ} → left ≡ m + 1 → next ≡ index + takes → takes ≡ (span_of t index (from b at)).takes
      → descriptors t included b at ≡ got tt (from b place)
      → covered ≡ false → Inside s store t (test_of t x) others included start m next b place later
  pass f g k p c =
      pass-by s store t (test_of t x) w f (g ∙ ap (λ (n : ℕ). index + n) (k ∙ (spans t included index (from b at)).counts)) p
      ((spans t included index (from b at)).goes_by x ∙ c)

-- a channel record goes by the number that it carries, and takes no index
module _ (index x : ℕ) (b : List ℕ) (at : ℕ) where
  pub channel-goes : {n : ℕ} → n ≡ (channel_of (take (at + 9 - at) (drop at b))).number
      → covers (span_of Vcm index (from b at)).first (span_of Vcm index (from b at)).count x ≡ eqb n x
  unfolding span_of vcm
  channel-goes e = covers_one _ x ∙ ap (λ (r : List ℕ). eqb (channel_of r).number x) (sym (part-whole b at 9)) ∙ ap (λ (m : ℕ). eqb m x) (sym e)

  pub channel-takes : 0 ≡ (span_of Vcm index (from b at)).takes
  unfolding span_of
  channel-takes = refl

-- a name goes by its flag and its number, which stand in front of it, and takes no index
module _ (index : ℕ) (b : List ℕ) (at : ℕ) where
  pub name-goes : (application number : ℕ) → is_name application number (numbered ntt index (from b at))
      ≡ is_name application number (record { index = 0; what = name_of (take 4 (from b at)) })
  unfolding is_name numbered ntt name_of byte
  name-goes application number =
      let n = 4 + byte 3 (take 4 (from b at)) in
      let same : (j : ℕ) → j < 4 → get_or (take n (from b at)) j 0 ≡ get_or (take 4 (from b at)) j 0 =
      λ j h. get_or-take n (from b at) j 0 (omega arith) ∙ sym (get_or-take 4 (from b at) j 0 h) in
      rw (same 0 (omega arith), same 1 (omega arith), same 2 (omega arith)) refl

  pub name-takes : 0 ≡ (span_of Ntt index (from b at)).takes
  unfolding span_of
  name-takes = refl
