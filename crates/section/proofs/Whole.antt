-- From the stages of the reader to the whole section.
use Prim.Native.Nat.{ℕ, ◌≤◌, ◌<◌, ◌%◌, ◌-◌}
use native.Mathlib.Omega.{arith}
use mathlib.Core.Path.{◌≡◌, refl, sym, ap, ap₂, subst, ◌∙◌}
use mathlib.Core.{Bool.Bool, Bool.true, Bool.false, List.List, Option.Option, Option.none, Option.some}
use lib.{ListN.length, ListN.take, Dec.leb, Dec.ltb}
use borrow.Author.Tests.{eq-eqb, ne_eqb, lt-ltb, le-ltb}
use Rattle.rules.specs.Bytes.{Got, refused, got, unless, and_then, giving, byte, from}
use Rattle.rules.specs.{Crc.crc_of, Descriptors.Descriptor, Descriptors.closing, Descriptors.bodies, Form.Front, Form.form, declared.Table.Table}
use Rattle.rules.specs.{declared.Language.Language, declared.Revision.Revision, declared.SectionHead.SectionHead}
use Rattle.rules.specs.Layout.{Block, extent, taken, Numbered, records}
use Rattle.rules.specs.Section.{is_number, medium_at, named, given, header_of, Headed, header_by, header, in_front, Structure, structure, revision_tag}
use Rattle.rules.specs.Section.{revision, Content, content_of, content, fitting, without_crc, whole, Reading, wrong, right, read, read_section, size_of}
use Rattle.rules.specs.Section.{closing_at, head_of, read_as, first_of, asked_of, ask, part_at}
use Rattle.std.specs.Prelude.{Some, None}
use Rattle.std.specs.Prelude as std
use Rattle.rules.specs.{Refusals.OrRefused, declared.Part.Part}
use Rattle.rules.proofs.Taken.{unless-got, given-got, giving-got, then-got, taken-got}
use Rattle.rules.proofs.{Asking.asked-inside, Closing.closing-size, Places.from-length, Right.reads_right, Right.closing-place}
use Rattle.fields.specs.Outline.{header_size, header_says, behind_header, layout_of, fronted}
use Rattle.fields.specs.Place.{place_or_end}
use Rattle.fields.specs.declared.Outline.{Outline}
use Rattle.fields.proofs.{Laws.place_inside, Outlines.laid, Outlines.Area}
use Rattle.section.specs.Closes.{closed_of, filled, first_in}
use Rattle.section.specs.Reads.{named_as, table_of, headed_by, headed, behind, answered_as}

-- ---- the header

module _ (bs : List ℕ) where
  pub header-cut : length bs ≤ medium_at (byte 0 bs) → headed bs ≡ refused 8
  unfolding headed unless
  header-cut h = rw (le-ltb _ _ h)

  name_of : (o : Option Table) (t : Table) → Some t ≡ named_as o → o ≡ some t
  unfolding named_as
  name_of none t e = let z : ◌≡◌ {A = ℕ} 0 1 = cc in absurd (omega arith)
  name_of (some u) t e = cc

  no_name : (o : Option Table) → None ≡ named_as o → o ≡ none
  unfolding named_as
  no_name none e = refl
  no_name (some u) e = let z : ◌≡◌ {A = ℕ} 0 1 = cc in absurd (omega arith)

  module _ (h : medium_at (byte 0 bs) < length bs) where
    pub header-unnamed : None ≡ named_as (named (byte 0 bs) (byte (medium_at (byte 0 bs)) bs)) → headed bs ≡ refused 7
    unfolding headed unless given
    header-unnamed e = rw (lt-ltb _ _ h, no_name _ e)

    pub header-named : (t : Table) → Some t ≡ named_as (named (byte 0 bs) (byte (medium_at (byte 0 bs)) bs)) → headed bs ≡ headed_by t bs
    unfolding headed unless given
    header-named t e = rw (lt-ltb _ _ h, name_of _ t e)

-- the cases of the header's answer
module _ (g : Got Headed) where
  header_names : (t : Table) → right t ≡ table_of g → (h : Headed) × (rest : List ℕ) × (h.table ≡ t) × (g ≡ got h rest)
  unfolding table_of
  header_names t e = go g e
    where
      go : (x : Got Headed) → right t ≡ table_of x → (h : Headed) × (rest : List ℕ) × (h.table ≡ t) × (x ≡ got h rest)
      go (refused n) q = let z : ◌≡◌ {A = ℕ} 0 1 = cc in absurd (omega arith)
      go (got h rest) q = (h, rest, cc, refl)

  pub header-no : (n : ℕ) → wrong n ≡ table_of g → g ≡ refused n
  unfolding table_of
  header-no n e = go g e
    where
      go : (x : Got Headed) → wrong n ≡ table_of x → x ≡ refused n
      go (refused m) q = cc
      go (got u rest) q = let z : ◌≡◌ {A = ℕ} 0 1 = cc in absurd (omega arith)

-- a header that is taken but for its limits is taken where they hold
limits-last : {R : Type 0} (k : Block R) (limits : R → Bool) (bs : List ℕ)
    → taken k limits bs ≡ and_then (taken k (λ x. true) bs) (λ x rest. unless (limits x) 10 (got x rest))
unfolding taken unless and_then
limits-last {R} k limits bs = go (leb (extent k bs) (length bs)) (k.zeros (take (extent k bs) bs)) (k.look (take (extent k bs) bs))
  where
    go : (a z : Bool) (x : R)
        → unless a 8 (unless z 9 (unless (limits x) 10 (got x (from bs (extent k bs)))))
        ≡ and_then (unless a 8 (unless z 9 (unless true 10 (got x (from bs (extent k bs)))))) (λ x rest. unless (limits x) 10 (got x rest))
    go false z x = refl
    go true false x = refl
    go true true x = refl

-- so the content is what comes behind it
abbrev judged : Headed → List ℕ → Got Content
judged h rest = unless ((form h.table).limits h.front) 10 (content_of h rest)

content-by : (b : List ℕ) → content b ≡ and_then (headed b) judged
unfolding content header header_by headed headed_by given and_then giving unless
content-by b = go (ltb (medium_at (byte 0 b)) (length b)) (named (byte 0 b) (byte (medium_at (byte 0 b)) b))
  where
    limited : (h : Headed) (rest : List ℕ) (l : Bool)
        → and_then (giving (λ x. record { table = h.table; front = x }) (unless l 10 (got h.front rest))) content_of ≡ unless l 10 (content_of h rest)
    limited h rest true = refl
    limited h rest false = refl

    headers : (t : Table) (g : Got Front)
        → and_then (giving (λ x. record { table = t; front = x }) (and_then g (λ x rest. unless ((form t).limits x) 10 (got x rest)))) content_of
        ≡ and_then (giving (λ x. record { table = t; front = x }) g) judged
    headers t (refused n) = refl
    headers t (got x rest) = limited (record { table = t; front = x }) rest ((form t).limits x)

    go : (m : Bool) (o : Option Table)
        → and_then (unless m 8 (given o 7 (λ t. header_by t b))) content_of ≡ and_then (unless m 8 (given o 7 (λ t. headed_by t b))) judged
    go false o = refl
    go true none = refl
    go true (some t) = rw (limits-last (header_of (form t)) (form t).limits b) (headers t (taken (header_of (form t)) (λ x. true) b))

headed-got : (b : List ℕ) (h : Headed) (rest : List ℕ) → headed b ≡ got h rest → taken (header_of (form h.table)) (λ x. true) b ≡ got h.front rest
unfolding headed headed_by
headed-got b h rest e =
    let g = given-got _ _ _ _ _ (unless-got _ _ _ _ _ e).1 in
    let w = giving-got _ _ _ _ g.1 in
    subst (λ (x : Headed). taken (header_of (form x.table)) (λ y. true) b ≡ got x.front rest) (sym w.2) w.1

-- ---- the content

pub shown-no : (b : List ℕ) (n : ℕ) (g : Got Content) → g ≡ refused n → wrong n ≡ answered_as b g
unfolding answered_as
shown-no b n g e = sym (ap (answered_as b) e)

pub content-unheaded : (b : List ℕ) (n : ℕ) → wrong n ≡ table_of (headed b) → content b ≡ refused n
unfolding and_then
content-unheaded b n e = content-by b ∙ rw (header-no (headed b) n e)

-- a header that names a table is whole, says what its bytes say, and leaves those behind them
pub content-headed : (b : List ℕ) (t : Table) → right t ≡ table_of (headed b) → (content b ≡ behind t b) × (header_size t ≤ length b)
unfolding and_then behind
content-headed b t e =
    let g = header_names (headed b) t e in
    let u = g.0.table in
    let k = taken-got _ _ b g.0.front g.1 (headed-got b g.0 g.1 g.3) in
    let is : g.0 ≡ record { table = u; front = header_says u b } = ap (λ (x : Front). record { table = u; front = x }) k.is in (
      content-by b ∙ ap (λ (x : Got Headed). and_then x judged) g.3 ∙ ap₂ judged is k.behind ∙ ap (λ (v : Table). behind v b) g.2,
      subst (λ (v : Table). header_size v ≤ length b) g.2 (omega (arith, k.fits, (laid u).header b)),
    )

abbrev made : Table → Structure → List Descriptor → Revision → Content
made t x ds r = record { table = t; structure = x; closing = ds; revision = r }

closed-got : (g : Got Revision) (r : Revision) → right r ≡ read g → (rest : List ℕ) × (g ≡ got r rest)
unfolding read
closed-got (refused n) r q = let z : ◌≡◌ {A = ℕ} 0 1 = cc in absurd (omega arith)
closed-got (got s rest) r q = (rest, cc)

-- behind what stands in front of the records: the records, and the closing list
module _ (t : Table) (b : List ℕ) where
  abbrev ending : Structure → List ℕ → Got Content
  ending x tail = and_then (closing tail) (λ ds end. giving (made t x ds) (revision (bodies revision_tag ds)))

  abbrev built : Front → List (Numbered (form t).Row) → Structure
  built y rs = record { front = y; lists = (form t).says rs }

  behind-by : behind t b ≡ and_then (fronted t b)
      (λ y rest. and_then (records ((form t).layout y) y.count y.first rest) (λ rs tail. ending (built y rs) tail))
  unfolding behind content_of structure fronted and_then giving unless
  behind-by = go ((form t).limits (header_says t b)) (in_front (form t) (header_says t b) (behind_header t b))
    where
      rows : (y : Front) (g : Got (List (Numbered (form t).Row))) → and_then (giving (built y) g) ending ≡ and_then g (λ rs tail. ending (built y rs) tail)
      rows y (refused n) = refl
      rows y (got rs tail) = refl

      fronts : (g : Got Front) → and_then (and_then g (λ y rest. giving (built y) (records ((form t).layout y) y.count y.first rest))) ending
          ≡ and_then g (λ y rest. and_then (records ((form t).layout y) y.count y.first rest) (λ rs tail. ending (built y rs) tail))
      fronts (refused n) = refl
      fronts (got y rest) = rows y (records ((form t).layout y) y.count y.first rest)

      go : (l : Bool) (g : Got Front)
          → unless l 10 (and_then (and_then g (λ y rest. giving (built y) (records ((form t).layout y) y.count y.first rest))) ending)
          ≡ and_then (unless l 10 g) (λ y rest. and_then (records ((form t).layout y) y.count y.first rest) (λ rs tail. ending (built y rs) tail))
      go true g = fronts g
      go false g = refl

  pub unfronted : (n : ℕ) → fronted t b ≡ refused n → behind t b ≡ refused n
  unfolding and_then
  unfronted n e = behind-by ∙ rw e

  module _ (o : Outline) (a : Area t b o) where
    abbrev rows : Got (List (Numbered (form t).Row))
    rows = records (layout_of t o.included) o.count o.first (from b o.at)

    behind-rows : behind t b ≡ and_then rows (λ rs tail. ending (built a.front rs) tail)
    unfolding and_then
    behind-rows = behind-by ∙ rw (a.is, a.walked)

    pub unread : (n : ℕ) → rows ≡ refused n → behind t b ≡ refused n
    unfolding and_then
    unread n e = behind-rows ∙ rw e

    module _ (rs : List (Numbered (form t).Row)) (at : ℕ) (e : rows ≡ got rs (from b at)) where
      behind-ending : behind t b ≡ ending (built a.front rs) (from b at)
      unfolding and_then
      behind-ending = behind-rows ∙ rw e

      pub unclosed : (n : ℕ) → wrong n ≡ read (closed_of (from b at)) → behind t b ≡ refused n
      unfolding and_then closed_of read giving
      unclosed n q = behind-ending ∙ go (closing (from b at)) q
        where
          judge : (ds : List Descriptor) (g : Got Revision) → wrong n ≡ read g → giving (made t (built a.front rs) ds) g ≡ refused n
          judge ds (refused m) p = cc
          judge ds (got r rest) p = let z : ◌≡◌ {A = ℕ} 0 1 = cc in absurd (omega arith)

          go : (g : Got (List Descriptor)) → wrong n ≡ read (and_then g (λ ds end. revision (bodies revision_tag ds)))
              → and_then g (λ ds end. giving (made t (built a.front rs) ds) (revision (bodies revision_tag ds))) ≡ refused n
          go (refused m) p = cc
          go (got ds end) p = judge ds (revision (bodies revision_tag ds)) p

      -- the closing list has the bytes from its place on
      list-got : (r : Revision) → right r ≡ read (closed_of (from b at))
          → (ds : List Descriptor) × (end : List ℕ) × (rest : List ℕ) × (closing (from b at) ≡ got ds end) × (revision (bodies revision_tag ds) ≡ got r rest)
      unfolding closed_of
      list-got r q = let c = closed-got _ r q in let d = then-got _ _ _ _ c.1 in (d.value, d.behind, c.0, d.one, d.more)

      pub read_right : at ≤ length b → (r : Revision) → right r ≡ read (closed_of (from b at))
          → (l : Language) → l ≡ (header_says t b).language
          → right (record { table = t; map = o.map; language = l; revision = r; closing = at }) ≡ answered_as b (behind t b)
      unfolding answered_as head_of closing_at and_then giving
      read_right h r q l spoken =
          let d = list-got r q in
          let p : length b - size_of d.0 ≡ at = omega (arith, closing-size (from b at) d.0 d.1 d.3, from-length b at) in
          let same : l ≡ a.front.language = spoken ∙ sym a.language in
          rw (behind-ending, d.3, d.4, p)
          (ap₂ (λ (m : ℕ) (k : Language). right (record { table = t; map = m; language = k; revision = r; closing = at })) a.map same)

-- ---- the whole section

module _ (s : List ℕ) where
  pub whole-unfit : fitting s ≡ false → whole s ≡ refused 3
  unfolding whole unless
  whole-unfit f = rw f

  module _ (f : fitting s ≡ true) where
    pub whole-other : is_number (byte 0 s) ≡ false → whole s ≡ refused 4
    unfolding whole unless
    whole-other n = rw (f, n)

    module _ (n : is_number (byte 0 s) ≡ true) where
      pub whole-spoilt : (crc_of s ≡ 0 → ⊥) → whole s ≡ refused 5
      unfolding whole unless
      whole-spoilt c = rw (f, n, ne_eqb _ _ c)

      pub whole-newer : crc_of s ≡ 0 → (byte 3 s % 32 ≡ 0 → ⊥) → whole s ≡ refused 6
      unfolding whole unless
      whole-newer c p = rw (f, n, eq-eqb _ _ c, ne_eqb _ _ p)

      pub whole-so : crc_of s ≡ 0 → byte 3 s % 32 ≡ 0 → whole s ≡ content (without_crc s)
      unfolding whole unless
      whole-so c p = rw (f, n, eq-eqb _ _ c, eq-eqb _ _ p)

  pub reads-no : (n : ℕ) → whole s ≡ refused n → wrong n ≡ read_as s (read_section s)
  unfolding read_section read read_as
  reads-no n e = rw e

  pub reads-content : whole s ≡ content (without_crc s) → answered_as (without_crc s) (content (without_crc s)) ≡ read_as s (read_section s)
  unfolding read_section answered_as read read_as
  reads-content e = go (content (without_crc s)) ∙ ap (λ (g : Got Content). read_as s (read g)) (sym e)
    where
      go : (g : Got Content) → answered_as (without_crc s) g ≡ read_as s (read g)
      go (refused n) = refl
      go (got c rest) = refl

-- ---- the descriptor question

module _ (s : List ℕ) where
  pub ask-refused : (tag n : ℕ) → wrong n ≡ read_as s (read_section s) → wrong n ≡ ask tag s
  unfolding ask asked_of read_as
  ask-refused tag n e = go (read_section s) e
    where
      go : (g : Reading) → wrong n ≡ read_as s g → wrong n ≡ asked_of tag s g
      go (wrong m) q = cc
      go (right c) q = let z : ◌≡◌ {A = ℕ} 0 1 = cc in absurd (omega arith)

  right_of : (h : SectionHead) (g : Reading) → right h ≡ read_as s g
      → (c : Content) × (g ≡ right c) × (h.closing ≡ closing_at (without_crc s) c.closing)
  unfolding read_as head_of
  right_of h (wrong n) q = let z : ◌≡◌ {A = ℕ} 0 1 = cc in absurd (omega arith)
  right_of h (right c) q = (c, refl, cc)

  module _ (h : SectionHead) (e : right h ≡ read_as s (read_section s)) where
    abbrev found : (c : Content) × (read_section s ≡ right c) × (h.closing ≡ closing_at (without_crc s) c.closing)
    found = right_of h (read_section s) e

    pub read-long : 8 ≤ length s
    read-long = (reads_right s found.0 found.1).long

    list : (end : List ℕ) × (closing (from (without_crc s) h.closing) ≡ got found.0.closing end)
    list =
        let p = closing-place (without_crc s) found.0 (reads_right s found.0 found.1).made in
        (p.0, ap (λ (at : ℕ). closing (from (without_crc s) at)) found.2 ∙ p.1)

    pub ask-listed : filled (closing (from (without_crc s) h.closing)) ≡ true
    unfolding filled
    ask-listed = ap filled list.1

    pub ask-first : (tag : ℕ) → first_in tag h.closing (closing (from (without_crc s) h.closing)) ≡ ask tag s
    unfolding ask asked_of first_in
    ask-first tag =
        ap (first_in tag h.closing) list.1 ∙ ap (λ (at : ℕ). right (first_of tag at found.0.closing)) found.2 ∙ ap (asked_of tag s) (sym found.1)

-- a body that is there stands inside its section
pub there-inside : (tag : ℕ) (s : List ℕ) {a : OrRefused (std.Option Part)} (x : Part) → a ≡ ask tag s → a ≡ right (Some x) → place_or_end s x.start ≡ x.start
unfolding part_at
there-inside tag s x e there =
    place_inside s x.start (subst (λ (y : OrRefused (std.Option Part)). part_at y ≤ length s) (sym e ∙ there) (asked-inside tag s))
