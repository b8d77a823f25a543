-- What the state says of the store is so: of a box that began fresh, or with any state and store of which it was so, every
-- live place and every held one has the section that it should, whatever is offered. So check 16 passes there.
use Prim.Native.Nat.{ℕ, ◌+◌, ◌-◌, ◌<◌, ◌≤◌}
use native.Mathlib.Omega.{arith}
use mathlib.Core.Path.{◌≡◌, refl, sym, ap, ◌∙◌}
use mathlib.Core.{Logic.◌⊎◌, Logic.inl, Logic.inr, Bool.Bool, Bool.true, Bool.false, List.List, List.[], List.◌∷◌}
use lib.Dec.{eqb}
use borrow.Author.Tests.{eqb-true, eqb-false}
use Rattle.rules.specs.Steps.{none_live, none_gathered, fresh_holding, holds, holding_formed, held_with, gone_live, gathering, step_of, takes_in}
use Rattle.rules.specs.Gathering.{Collector, BoxOf, place_of, section_at, gathered_at, answer_to, box_after, run}
use Rattle.rules.specs.Offering.{Taking, TakenIn, NotOf, Wanted}
use Rattle.rules.specs.{declared.Holding.Holding, declared.Revision.Revision}
use Rattle.rules.proofs.{Held.all-lt, Held.holds-all, Held.held_below, Right.one_right, Truths.by-test}
use Rattle.rules.proofs.{Formed.formed, Formed.live-low, Formed.gathered-clauses, Store.same-section, Store.section-there, Lawful.Lawful}
use Rattle.rules.proofs.{Lawful.same-table, Lawful.aside-no, Lawful.no-aside}
use Rattle.rules.proofs.Kept.{place_kept, other-places}
use Rattle.rules.proofs.Steps.{gathered-says, gathered-last, held-before, taken-cases}
use Rattle.rules.proofs.Offers.{not-of, taken_in, untouched, reads_kept, aside-kept, limit-kept, others-kept, step-holds}

-- ---- numbers of a well-formed holding are below the limit

pub gathered-low : (limit : ℕ) (h : Holding) → holding_formed limit h ≡ true → (n : ℕ) → h.gathered.present ≡ 1 → holds h.gathered.held n ≡ true
    → n < limit
gathered-low limit h good n e q =
    let below = gathered-clauses limit h good e in
    omega (arith, held_below (h.gathered.last + 1) h.gathered.held n (omega (arith, below.1, all-lt h.gathered.last)) q, below.0)

module _ {T S C : Type 0} (co : Collector T S C) where
  open co use {holding as holding_of, limit as limit_of, read as read_for, table as table_of, revision as revision_of, aside as sets_aside}

  -- of a table: the place of each live section, and of each held one, has that section of that version, for our map
  pub record Faithful (start : S) (store : List ℕ) (limit : ℕ) (t : T) (h : Holding) : Type 0 where
    pub live : h.live.present ≡ 1 → (n : ℕ) → n ≤ h.live.last
        → Wanted co start t h.live.version h.live.last n (section_at co store (place_of co limit t h.half n))
    pub gathered : h.gathered.present ≡ 1 → (n : ℕ) → holds h.gathered.held n ≡ true
        → Wanted co start t h.gathered.version h.gathered.last n (section_at co store (place_of co limit t (1 - h.half) n))

  pub record FaithfulBox (start : S) (b : BoxOf S) : Type 0 where
    pub reads : (x : List ℕ) → read_for b.state x ≡ read_for start x
    pub aside : (c : C) → sets_aside b.state c ≡ sets_aside start c
    pub tables : (t : T) → Faithful start b.store (limit_of b.state) t (holding_of b.state t)

  -- ---- a section that is taken in

  module _ (start : S) (limit : ℕ) (t : T) (h : Holding) (r : Revision) (store after section : List ℕ)
      (k : Taking h r limit)
      (there : section_at co after (place_of co limit t (1 - h.half) r.number) ≡ section)
      (elsewhere : (half n : ℕ) → half < 2 → n < limit → ((half ≡ 1 - h.half) × (n ≡ r.number) → ⊥)
      → section_at co after (place_of co limit t half n) ≡ section_at co store (place_of co limit t half n))
      (wanted : Wanted co start t r.version r.last r.number section)
      (f : Faithful start store limit t h) where
    -- each number that is then held has its section in the half that gathering uses
    held-there : (n : ℕ) → holds (held_with h r) n ≡ true → Wanted co start t r.version r.last n (section_at co after (place_of co limit t (1 - h.half) n))
    held-there n e = go (eqb n r.number) refl
      where
        go : (b : Bool) → eqb n r.number ≡ b → Wanted co start t r.version r.last n (section_at co after (place_of co limit t (1 - h.half) n))
        go true q = rw (eqb-true n r.number q, there) wanted
        go false q =
            let ne = eqb-false n r.number q in let old = held-before h r n ne e in
            let named = gathered-says h r.version old.0 in
            let low : n < limit = gathered-low limit h k.ready.sound.good n named.0 old.1 in
            rw (elsewhere (1 - h.half) n (omega arith) low (λ x. ne x.1))
            (rw (named.1, gathered-last h r k.ready.apart old.0) at (f.gathered named.0 n old.1))

    pub faithful-taken : Faithful start after limit t (step_of limit h r).holding
    unfolding gone_live none_gathered gathering
    faithful-taken =
        taken-cases h r limit (λ x. Faithful start after limit t x.holding) k
        (λ all. record {
          live = λ e n le. held-there n (ap (λ (held : ℕ). holds held n) all ∙ holds-all r.last n le);
          gathered = λ e. absurd (omega (arith, e));
        })
        (λ few. record { live = live-there; gathered = λ e n q. held-there n q })
      where
        halves : h.half < 2
        halves = omega (arith, (formed limit h k.ready.sound.good).half)

        live-there : h.live.present ≡ 1 → (n : ℕ) → n ≤ h.live.last
            → Wanted co start t h.live.version h.live.last n (section_at co after (place_of co limit t h.half n))
        live-there e n le =
            let low = live-low limit h k.ready.sound.good e in
            rw (elsewhere h.half n halves (omega (arith, low)) (λ x. let same = x.0 in omega arith)) (f.live e n le)

  -- where no place of a table changed, and its holding did not
  faithful-same : (start : S) (store after : List ℕ) (limit : ℕ) (t : T) (h : Holding) → holding_formed limit h ≡ true
      → ((half n : ℕ) → half < 2 → n < limit → section_at co after (place_of co limit t half n) ≡ section_at co store (place_of co limit t half n))
      → Faithful start store limit t h → Faithful start after limit t h
  faithful-same start store after limit t h good same f =
      record {
        live = λ e n le.
            let low = live-low limit h good e in
            rw (same h.half n (omega (arith, (formed limit h good).half)) (omega (arith, low))) (f.live e n le);
        gathered = λ e n q. rw (same (1 - h.half) n (omega arith) (gathered-low limit h good n e q)) (f.gathered e n q);
      }

  -- nothing is live or held at the start, so there is nothing to be unfaithful to
  pub faithful-fresh : (start : S) (store : List ℕ) → ((t : T) → holding_of start t ≡ fresh_holding)
      → FaithfulBox start (record { state = start; store = store })
  unfolding fresh_holding none_live none_gathered
  faithful-fresh start store fresh = record { reads = λ x. refl; aside = λ c. refl; tables = λ t. rw (fresh t) (none t) }
    where
      none : (t : T) → Faithful start store (limit_of start) t fresh_holding
      none t = record { live = λ e. absurd (omega (arith, e)); gathered = λ e. absurd (omega (arith, e)) }

  module _ (law : Lawful co) where
    open law use {formed_so, table_formed, reads_right}

    -- ---- a box

    -- in the place that it is put into a section is read again
    pub section-placed : (b : BoxOf S) (x : List ℕ) (c : C) → TakenIn co b x c
        → section_at co (box_after co b x).store (gathered_at co b.state (table_of c) (revision_of c).number) ≡ x
    section-placed b x c k =
        let r = reads_right b.state x c k.passed.reads in
        ap (λ (l : List ℕ). section_at co l (gathered_at co b.state (table_of c) (revision_of c).number)) k.stored
        ∙ section-there co b.store (gathered_at co b.state (table_of c) (revision_of c).number) x k.fits (omega (arith, r.long)) r.short r.whole

    module _ (start : S) (b : BoxOf S) (x : List ℕ) (f : FaithfulBox start b) (c : C) (k : TakenIn co b x c) where
      abbrev s : S
      s = b.state

      abbrev after : BoxOf S
      after = box_after co b x

      only : (d : C) → TakenIn co b x d → d ≡ c
      only d l = one_right (sym l.passed.reads ∙ k.passed.reads)

      own_table : Faithful start after.store (limit_of s) (table_of c) (step_of (limit_of s) (holding_of s (table_of c)) (revision_of c)).holding
      unfolding gathered_at
      own_table =
          faithful-taken start (limit_of s) (table_of c) (holding_of s (table_of c)) (revision_of c) b.store after.store x k.taking
          (section-placed b x c k) elsewhere
          (record {
            content = c;
            reads = sym (f.reads x) ∙ k.passed.reads;
            ours = no-aside co law start c (sym (f.aside c) ∙ aside-no co law s c k.passed.ours);
            table = refl;
            revision = refl;
          })
          (f.tables (table_of c))
        where
          elsewhere : (half n : ℕ) → half < 2 → n < limit_of s → ((half ≡ 1 - (holding_of s (table_of c)).half) × (n ≡ (revision_of c).number) → ⊥)
              → section_at co after.store (place_of co (limit_of s) (table_of c) half n) ≡ section_at co b.store (place_of co (limit_of s) (table_of c) half n)
          elsewhere half n halves low ne =
              same-section co after.store b.store (place_of co (limit_of s) (table_of c) half n)
              (place_kept co law b x (table_of c) half n halves low (λ d l e.
              ne (
                sym e.1 ∙ ap (λ (y : C). 1 - (holding_of s (table_of y)).half) (only d l),
                sym e.2 ∙ ap (λ (y : C). (revision_of y).number) (only d l),
              )))

      each-table : (t : T) → (table_of c ≡ t) ⊎ (table_of c ≡ t → ⊥) → Faithful start after.store (limit_of after.state) t (holding_of after.state t)
      each-table t (inl q) = rw (limit-kept co law b x, ← q, step-holds co law b x c k.passed) own_table
      each-table t (inr ne) =
          let other : NotOf co s t x = not-of co s x c t k.passed.reads ne in
          rw (limit-kept co law b x, others-kept co law b x t other)
          (faithful-same start b.store after.store (limit_of s) t (holding_of s t) (table_formed s t (formed_so s k.passed.good))
          (λ half n halves low. same-section co after.store b.store (place_of co (limit_of s) t half n)
          (other-places co law b x t other half n halves low)) (f.tables t))

    pub faithful-kept : (start : S) (b : BoxOf S) (x : List ℕ) → FaithfulBox start b → FaithfulBox start (box_after co b x)
    faithful-kept start b x f =
        by-test (takes_in (answer_to co b x))
        (λ e. let c = (taken_in co law b x e).0 in
        let k = (taken_in co law b x e).1 in
        record {
          reads = λ y. reads_kept co law b x y ∙ f.reads y;
          aside = λ d. aside-kept co law b x d ∙ f.aside d;
          tables = λ t. each-table start b x f c k t (same-table co law (table_of c) t);
        })
        (λ e. rw (untouched co law b x e) f)

    pub faithful-run : (start : S) (sections : List (List ℕ)) (b : BoxOf S) → FaithfulBox start b → FaithfulBox start (run co b sections)
    unfolding run
    faithful-run start [] b f = f
    faithful-run start (x ∷ xs) b f = faithful-run start xs (box_after co b x) (faithful-kept start b x f)
