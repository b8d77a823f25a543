-- A live place that passed check 16 reads right as its table, so the records at its outline are those that tuning speaks of. Proved once, over
-- the table.
use Prim.Native.Nat.{ℕ, ◌+◌, ◌*◌, ◌^◌, ◌≤◌, ◌<◌}
use native.Mathlib.{Omega.arith, Nat.mul-le-mul_right}
use mathlib.Core.Path.{◌≡◌, refl, sym, ap, ap₂, ◌∙◌}
use mathlib.Core.List.{List}
use lib.ListN.{length, length-take}
use Rattle.rules.specs.{Bytes.got, Bytes.unless, Bytes.from, Layout.taken, Layout.Numbered, Layout.records, Form.Front, Form.form}
use Rattle.rules.specs.{declared.Table.Table, declared.Holding.Holding, declared.State.State}
use Rattle.rules.specs.Section.{header_of, Structure, in_front, structure, without_crc}
use Rattle.rules.specs.Gathering as Gathering
use Rattle.rules.specs.Holding.{limit_of, index_of, place_of, section_at, holding_of, live_at, read_for}
use Rattle.rules.specs.Tuning.{live_count, live_reading, records_in, live_section}
use Rattle.rules.proofs.{Taken.then-got, Taken.giving-got, Taken.taken-got, Right.formal, Right.header-got, Right.reads_right, LivePlaces.table-says}
use Rattle.rules.proofs.{States.index_lt, States.limit-low, States.limit-some, Formed.formed, Formed.last-low}
use Rattle.rules.specs.Standing.{of_got, standing, standing_of, standing_in}
use Rattle.fields.specs.Outline.{layout_of, records_at, outlined_as, fronted, outline_of}
use Rattle.fields.specs.declared.Outline.{Outline}
use Rattle.std.specs.Prelude.{Ok}
use Rattle.rules.specs.Refusals.{right}
use Rattle.fields.proofs.Outlines.{laid, Area, an-area}
use Rattle.search.specs.Entries.{Live, RecordOf, records_of, outline_in}

module _ (t : Table) (b : List ℕ) where
  abbrev Walks : Outline → List (Numbered (RecordOf t)) → List ℕ → Type 0
  Walks o rs rest = records (layout_of t o.included) o.count o.first (from b o.at) ≡ got rs rest

  -- what stands in front of the records of a section is what its outline says
  record Outlines (y : Front) (rest : List ℕ) (o : Outline) : Type 0 where
    area : Area t b o
    front : y ≡ area.front
    at : rest ≡ from b o.at

  outlined : (front : Front) (behind : List ℕ) → taken (header_of (form t)) (form t).limits b ≡ got front behind
      → (y : Front) (rest : List ℕ) → in_front (form t) front behind ≡ got y rest → Outlines y rest (outline_in (outline_of t b))
  unfolding outline_of outlined_as fronted unless outline_in
  outlined front behind e y rest q =
      let k = taken-got _ _ b front behind e in
      let there : fronted t b ≡ got y rest = rw k.fair (ap₂ (in_front (form t)) (sym k.is) (sym k.behind) ∙ q) in
      let o : Outline = record { at = records_at t b; map = y.map; first = y.first; count = y.count; included = y.included } in
      let told : right o ≡ outline_of t b = rw there refl in
      let area = an-area t b (omega (arith, k.fits, (laid t).header b)) {r = Ok o} told refl in
      let is = area.is in
      rw (← told) (record { area = area; front = cc; at = cc })

  -- so the records of a structure stand at its outline
  at-outline : (front : Front) (behind : List ℕ) (x : Structure) (tail : List ℕ) → taken (header_of (form t)) (form t).limits b ≡ got front behind
      → structure (form t) front behind ≡ got x tail
      → Walks (outline_in (outline_of t b)) (records_of t x) tail
      × ((end : ℕ) → standing_of (form t) end b
      ≡ standing (layout_of t (outline_in (outline_of t b)).included) (outline_in (outline_of t b)).count (outline_in (outline_of t b)).first end
      (from b (outline_in (outline_of t b)).at))
  unfolding structure standing_of of_got
  at-outline front behind x tail e q =
      let s = then-got _ _ _ _ q in
      let g = giving-got _ _ _ _ s.more in
      let u = outlined front behind e s.value s.behind s.one in
      let a = u.area in
      let listed : (form t).rows_in x.lists ≡ g.0 = ap (λ (z : Structure). (form t).rows_in z.lists) g.2 ∙ (formal t).lists g.0 in
      let rows = g.1 ∙ ap (λ (rs : List (Numbered (RecordOf t))). got rs tail) (sym listed) in (
        sym a.walked
            ∙ ap₂ (λ (z : Front) (l : List ℕ). records ((form t).layout z) z.count z.first l) (sym u.front) (sym u.at) ∙ rows,
        λ end.
            rw (e, s.one)
            (ap₂ (λ (z : Front) (l : List ℕ). standing ((form t).layout z) z.count z.first end l) u.front u.at
            ∙ rw (a.layout, ← a.count, ← a.first) refl),
      )

-- and those of a live section
pub live-walk : (s : State) (store : List ℕ) (t : Table) → Live s store t → (i : ℕ) → i < live_count s t → (b : List ℕ)
    → b ≡ without_crc (section_at store (live_at s t i)) → (o : Outline) → o ≡ outline_in (outline_of t b)
    → (rest : List ℕ) × Walks t b o (live_section (records_of t) s store t i) rest
    × (standing_in s store t i ≡ standing (layout_of t o.included) o.count o.first (live_at s t i + length b) (from b o.at))
unfolding live_section live_reading read_for records_in standing_in
live-walk s store t live i h b p o q =
    let section = section_at store (live_at s t i) in
    let place = table-says s store t live.reads i h in
    let made = (reads_right section place.content place.reads).made in
    let head = (header-got _ _ made.behind made.headed).block in
    let walks = at-outline t (without_crc section) made.front made.behind place.content.structure made.tail
    (ap (λ (u : Table). taken (header_of (form u)) (form u).limits (without_crc section)) (sym place.table) ∙ head)
    (ap (λ (u : Table). structure (form u) made.front made.behind) (sym place.table) ∙ made.built) in
    (made.tail, rw (q, p, place.reads) walks.0, rw (q, p) (walks.1 _))

-- ---- the loop over the sections, and the place of each: a number of 32 bits

module _ (s : State) (t : Table) (i : ℕ) {h : Holding} (e : h ≡ holding_of s t) where
  last-same : h.live.last ≡ (holding_of s t).live.last
  last-same = ap (λ (k : Holding). k.live.last) e

  pub one_of : i ≤ h.live.last → i < live_count s t
  unfolding live_count
  one_of lt = omega (arith, lt, last-same)

  pub behind-all : h.live.last < i → live_count s t ≤ i
  unfolding live_count
  behind-all le = omega (arith, le, last-same)

  pub live-place : place_of (limit_of s) t h.half i ≡ live_at s t i
  unfolding Gathering.live_at
  live-place = rw e

pub section-short : (store : List ℕ) (start : ℕ) → length (without_crc (section_at store start)) ≤ 1024
unfolding without_crc Gathering.section_at
section-short store start = simp length-take (omega arith)

small-place : (s : State) (t : Table) (half n : ℕ) → half < 256 → n < 256 → place_of (limit_of s) t half n < 2 ^ 30
unfolding Gathering.place_of
small-place s t half n h k =
    let index = index_lt t in
    let low = limit-low s in
    omega (arith, index, mul-le-mul_right {m = index_of t * 2 + half} {n = 1000} (limit_of s) (omega arith))

pub low-live : (s : State) (store : List ℕ) (t : Table) → Live s store t → (i : ℕ) → i < live_count s t → live_at s t i < 2 ^ 30
unfolding Gathering.live_at live_count
low-live s store t live i h =
    let f = formed (limit_of s) (holding_of s t) live.formed in
    let last = last-low (limit_of s) (holding_of s t) (limit-some s) live.formed in
    small-place s t (holding_of s t).half i (omega (arith, f.half)) (omega (arith, last, limit-low s))
