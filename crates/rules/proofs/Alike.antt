-- Two boxes of a collector are alike where they have the same state and what is live or held says the same in both, but for what gathering
-- does not look at. So they answer alike and stay alike, whatever is offered to the one and, grown or not, to the other.
use Prim.Native.Nat.{ℕ, ◌-◌, ◌<◌, ◌≤◌}
use native.Mathlib.Omega.{arith}
use mathlib.Core.Path.{◌≡◌, refl, sym, ap, subst, ◌∙◌}
use mathlib.Core.Bool.{Bool, true, false, cond, ◌&&◌}
use mathlib.Core.{Logic.◌⊎◌, Logic.inl, Logic.inr, List.List, List.[], List.◌∷◌}
use lib.{ListN.length, Dec.eqb}
use borrow.Author.Tests.{eqb-true, eqb-false, eq-eqb}
use Rattle.rules.specs.{Section.wrong, Section.right, Offering.Taking, Offering.TakenIn, declared.Holding.Holding}
use Rattle.rules.specs.declared.Revision.{Revision}
use Rattle.rules.specs.Steps.{none_live, none_gathered, fresh_holding, holds, all_of, holding_formed, held_with, gone_live, gathering, step_of, takes_in}
use Rattle.rules.specs.Gathering.{Collector, BoxOf, Outcome, place_of, section_at, offered_as, offered, answer_to, box_after, run, answers}
use Rattle.rules.proofs.{Right.one_right, Right.not_right, Taken.differ, Held.holds-all, Formed.formed}
use Rattle.rules.proofs.{Steps.gathered-says, Steps.held-before, Steps.taken-cases, Lawful.Lawful, Lawful.same-table, Kept.length-kept}
use Rattle.rules.proofs.{Formed.live-low, Faithful.gathered-low, Placed.is_place, Placed.place_after, Truths.by-test}
use Rattle.rules.proofs.Offers.{not-of, taken_in, untouched, reads_kept, limit-kept, formed-kept, others-kept, step-holds}
use Rattle.rules.specs.Refusals.{OrRefused}

-- ---- what a reading means, of which gathering looks at no more

unfoldable pub meaning : {C M : Type 0} → (C → M) → OrRefused C → OrRefused M
meaning means (wrong n) = wrong n
meaning means (right c) = right (means c)

-- what means the same is of the same table and revision, and set aside by the same word
pub record Enough {T S C M : Type 0} (co : Collector T S C) (means : C → M) : Type 0 where
  pub table : (c d : C) → means c ≡ means d → co.table c ≡ co.table d
  pub revision : (c d : C) → means c ≡ means d → co.revision c ≡ co.revision d
  pub aside : (s : S) (c d : C) → means c ≡ means d → co.aside s c ≡ co.aside s d
  pub word : (s : S) (c d : C) → means c ≡ means d → co.word s c ≡ co.word s d

-- whatever looks at no more comes to the same
by-meaning : {C M X : Type 0} (means : C → M) (f : OrRefused C → X) → ((c d : C) → means c ≡ means d → f (right c) ≡ f (right d)) → (q r : OrRefused C)
    → meaning means q ≡ meaning means r → f q ≡ f r
unfolding meaning
by-meaning means f same (wrong m) (wrong n) e = let k : m ≡ n = cc in ap (λ (x : ℕ). f (wrong x)) k
by-meaning means f same (wrong m) (right d) e = absurd (not_right m (means d) e)
by-meaning means f same (right c) (wrong n) e = absurd (not_right n (means c) (sym e))
by-meaning means f same (right c) (right d) e = same c d (one_right e)

-- ---- two boxes alike

-- a place of a table that is live or held; what stands in any other is never looked at
abbrev pub Occupied : Holding → (half n : ℕ) → Type 0
Occupied h half n =
    ((h.live.present ≡ 1) × (half ≡ h.half) × (n ≤ h.live.last))
    ⊎ ((h.gathered.present ≡ 1) × (half ≡ 1 - h.half) × (holds h.gathered.held n ≡ true))

-- it lies in the store
occupied-low : (limit : ℕ) (h : Holding) (half n : ℕ) → holding_formed limit h ≡ true → Occupied h half n → (half < 2) × (n < limit)
occupied-low limit h half n good (inl (live, is, le)) =
    let low = live-low limit h good live in (omega (arith, (formed limit h good).half, is), omega (arith, low, le))
occupied-low limit h half n good (inr (gathered, is, held)) = (omega (arith, is), gathered-low limit h good n gathered held)

-- a place that is occupied after a section was taken in is the section's, or was occupied before
module _ (h : Holding) (r : Revision) (limit : ℕ) (k : Taking h r limit) (half n : ℕ) where
  held_place : half ≡ 1 - h.half → holds (held_with h r) n ≡ true → ((half ≡ 1 - h.half) × (n ≡ r.number)) ⊎ Occupied h half n
  held_place is held =
      by-test (eqb n r.number)
      (λ e. inl (is, eqb-true n r.number e))
      (λ e. let old = held-before h r n (eqb-false n r.number e) held in
      inr (inr ((gathered-says h r.version old.0).0, is, old.1)))

  occupied-before : Occupied (step_of limit h r).holding half n → ((half ≡ 1 - h.half) × (n ≡ r.number)) ⊎ Occupied h half n
  unfolding gone_live none_gathered gathering
  occupied-before =
      taken-cases h r limit (λ x. Occupied x.holding half n → ((half ≡ 1 - h.half) × (n ≡ r.number)) ⊎ Occupied h half n) k
      (λ all o. gone all o) (λ few o. more o)
    where
      gone : held_with h r ≡ all_of r.last → Occupied (gone_live h r) half n → ((half ≡ 1 - h.half) × (n ≡ r.number)) ⊎ Occupied h half n
      gone all (inl (live, is, le)) = held_place is (ap (λ (held : ℕ). holds held n) all ∙ holds-all r.last n le)
      gone all (inr (gathered, is, held)) = absurd (omega (arith, gathered))

      more : Occupied (gathering h r (held_with h r)) half n → ((half ≡ 1 - h.half) × (n ≡ r.number)) ⊎ Occupied h half n
      more (inl live) = inr (inl live)
      more (inr (gathered, is, held)) = held_place is held

-- a content itself is enough
pub itself : {T S C : Type 0} (co : Collector T S C) → Enough co (λ c. c)
itself co = record { table = λ c d. ap co.table; revision = λ c d. ap co.revision; aside = λ s c d. ap (co.aside s); word = λ s c d. ap (co.word s) }

module _ {T S C M : Type 0} (co : Collector T S C) (means : C → M) where
  open co use {index as index_of, holding as holding_of, limit as limit_of, read as read_for, table as table_of, revision as revision_of}

  -- two sections say the same
  pub record SaySame (s : S) (x y : List ℕ) : Type 0 where
    pub same : meaning means (read_for s y) ≡ meaning means (read_for s x)

  pub same-itself : (s : S) (x : List ℕ) → SaySame s x x
  same-itself s x = record { same = refl }

  -- to a state that reads as this one they do too
  says_on : {s u : S} → ((z : List ℕ) → read_for u z ≡ read_for s z) → {x y : List ℕ} → SaySame s x y → SaySame u x y
  says_on same {x} {y} w = record { same = ap (meaning means) (same y) ∙ w.same ∙ sym (ap (meaning means) (same x)) }

  pub by-same : {X : Type 0} (f : OrRefused C → X) → ((c d : C) → means c ≡ means d → f (right c) ≡ f (right d)) → {s : S} {x y : List ℕ} → SaySame s x y
      → f (read_for s y) ≡ f (read_for s x)
  by-same f same {s} {x} {y} w = by-meaning means f same (read_for s y) (read_for s x) w.same

  pub record Alike (b c : BoxOf S) : Type 0 where
    pub state : c.state ≡ b.state
    pub size : length c.store ≡ length b.store
    pub places : (t : T) (half n : ℕ) → Occupied (holding_of b.state t) half n
        → SaySame b.state (section_at co b.store (place_of co (limit_of b.state) t half n))
        (section_at co c.store (place_of co (limit_of b.state) t half n))

  pub alike-itself : (b : BoxOf S) → Alike b b
  alike-itself b = record { state = refl; size = refl; places = λ t half n o. same-itself _ _ }

  -- sections that say the same, one by one
  pub data Paired (s : S) : List (List ℕ) → List (List ℕ) → Type 0 where
    none : Paired s [] []
    pair : {x y : List ℕ} {xs ys : List (List ℕ)} → SaySame s x y → Paired s xs ys → Paired s (x ∷ xs) (y ∷ ys)

  pub each-itself : (s : S) (xs : List (List ℕ)) → Paired s xs xs
  each-itself s [] = none
  each-itself s (x ∷ xs) = pair (same-itself s x) (each-itself s xs)

  -- where nothing is live or held it does not matter what stands in the store
  pub fresh-alike : (start : S) (store other : List ℕ) → ((t : T) → holding_of start t ≡ fresh_holding) → length other ≡ length store
      → Alike (record { state = start; store = store }) (record { state = start; store = other })
  unfolding fresh_holding none_live none_gathered
  fresh-alike start store other fresh e = record { state = refl; size = e; places = λ t half n o. absurd (empty (rw (fresh t) at o)) }
    where
      empty : {half n : ℕ} → Occupied fresh_holding half n → ⊥
      empty (inl (live, is, le)) = omega (arith, live)
      empty (inr (gathered, is, held)) = omega (arith, gathered)

  module _ (law : Lawful co) (enough : Enough co means) where
    open law use {formed_so, table_formed}

    offered-right : (s : S) (c d : C) → means c ≡ means d → offered_as co s (right c) ≡ offered_as co s (right d)
    unfolding offered_as
    offered-right s c d e = rw (enough.aside s c d e, enough.word s c d e, enough.table c d e, enough.revision c d e) refl

    offered-same : (s : S) (store other : List ℕ) {x y : List ℕ} → length other ≡ length store → SaySame s x y → offered co s other y ≡ offered co s store x
    unfolding offered
    offered-same s store other e w = rw (e, by-same (offered_as co s) (offered-right s) w) refl

    right-same : (s : S) (x y : List ℕ) (c d : C) → read_for s x ≡ right c → read_for s y ≡ right d → SaySame s x y
        → (table_of d ≡ table_of c) × (revision_of d ≡ revision_of c)
    unfolding meaning
    right-same s x y c d ex ey w =
        let k : means d ≡ means c = one_right (ap (meaning means) (sym ey) ∙ w.same ∙ ap (meaning means) ex) in
        (enough.table d c k, enough.revision d c k)

    -- an occupied place that is not the section's was occupied before
    module _ (b : BoxOf S) (x : List ℕ) (c : C) (k : TakenIn co b x c) (t : T) (half n : ℕ) where
      was-occupied : Occupied (holding_of (box_after co b x).state t) half n → is_place co b.state (table_of c) (revision_of c).number t half n ≡ false
          → Occupied (holding_of b.state t) half n
      unfolding is_place
      was-occupied o away = go (same-table co law (table_of c) t)
        where
          own : (u : T) → table_of c ≡ u → ((half ≡ 1 - (holding_of b.state u).half) × (n ≡ (revision_of c).number)) ⊎ Occupied (holding_of b.state u) half n
              → (eqb (index_of (table_of c)) (index_of u) && eqb (1 - (holding_of b.state (table_of c)).half) half && eqb (revision_of c).number n) ≡ false
              → Occupied (holding_of b.state u) half n
          own u q (inr before) out = before
          own u q (inl (is, number)) out =
              let here = ap (λ (z : T). 1 - (holding_of b.state z).half) q ∙ sym is in
              let table = eq-eqb (index_of (table_of c)) (index_of u) (ap index_of q) in
              let place = eq-eqb (1 - (holding_of b.state (table_of c)).half) half here in
              absurd (differ (simp (table, place, eq-eqb (revision_of c).number n (sym number)) at out))

          go : (table_of c ≡ t) ⊎ (table_of c ≡ t → ⊥) → Occupied (holding_of b.state t) half n
          go (inl q) =
              let now = subst (λ (u : T). Occupied (holding_of (box_after co b x).state u) half n) (sym q) o in
              let before =
              occupied-before (holding_of b.state (table_of c)) (revision_of c) (limit_of b.state) k.taking half n
              (rw (step-holds co law b x c k.passed) at now) in
              own t q (subst (λ (u : T). ((half ≡ 1 - (holding_of b.state u).half) × (n ≡ (revision_of c).number))
              ⊎ Occupied (holding_of b.state u) half n) q before) away
          go (inr ne) = rw (others-kept co law b x t (not-of co b.state x c t k.passed.reads ne)) at o

    either : (p : Bool) {s : S} {x y u v : List ℕ} → SaySame s x y → (p ≡ false → SaySame s u v) → SaySame s (cond p x u) (cond p y v)
    either true w v = w
    either false w v = v refl

    -- one offer
    module _ (b c : BoxOf S) (x y : List ℕ) (a : Alike b c) (w : SaySame b.state x y) where
      offer-alike : offered co c.state c.store y ≡ offered co b.state b.store x
      offer-alike = rw a.state (offered-same b.state b.store c.store a.size w)

      pub answer-alike : answer_to co c y ≡ answer_to co b x
      unfolding answer_to
      answer-alike = ap (λ (o : Outcome S). o.answer) offer-alike

      state-alike : (box_after co c y).state ≡ (box_after co b x).state
      unfolding box_after
      state-alike = ap (λ (o : Outcome S). o.state) offer-alike

      -- where both were taken in they stand in the same place
      places-alike : (d e : C) → TakenIn co b x d → TakenIn co c y e → (t : T) (half n : ℕ) → Occupied (holding_of (box_after co b x).state t) half n
          → SaySame b.state (section_at co (box_after co b x).store (place_of co (limit_of b.state) t half n))
          (section_at co (box_after co c y).store (place_of co (limit_of b.state) t half n))
      places-alike d e k l t half n o =
          let both = right-same b.state x y d e k.passed.reads (rw a.state at l.passed.reads) w in
          let lies =
          occupied-low (limit_of (box_after co b x).state) (holding_of (box_after co b x).state t) half n
          (table_formed (box_after co b x).state t (formed-kept co law b x (formed_so b.state k.passed.good))) o in
          let low : n < limit_of b.state = rw (limit-kept co law b x) at lies.1 in
          let there =
          subst (λ (z : S). section_at co (box_after co c y).store (place_of co (limit_of z) t half n)
          ≡ cond (is_place co z (table_of e) (revision_of e).number t half n) y (section_at co c.store (place_of co (limit_of z) t half n)))
          a.state (place_after co law c y e l t half n lies.0 (rw a.state low)) in
          rw (place_after co law b x d k t half n lies.0 low, there, both.0, both.1)
          (either (is_place co b.state (table_of d) (revision_of d).number t half n) w (λ away. a.places t half n (was-occupied b x d k t half n o away)))

      pub alike-after : Alike (box_after co b x) (box_after co c y)
      alike-after =
          by-test (takes_in (answer_to co b x))
          (λ e. let k = (taken_in co law b x e).1 in
          let l = (taken_in co law c y (ap takes_in answer-alike ∙ e)).1 in
          record {
            state = state-alike;
            size = length-kept co law c y ∙ a.size ∙ sym (length-kept co law b x);
            places = λ t half n o. says_on (reads_kept co law b x) (rw (limit-kept co law b x) (places-alike _ _ k l t half n o));
          })
          (λ e. rw (untouched co law b x e, untouched co law c y (ap takes_in answer-alike ∙ e)) a)

    -- a run, from a state that reads as the first one does
    run_on : (start : S) {ss gs : List (List ℕ)} → Paired start ss gs → (b c : BoxOf S) → ((x : List ℕ) → read_for b.state x ≡ read_for start x) → Alike b c
        → (answers co c gs ≡ answers co b ss) × Alike (run co b ss) (run co c gs)
    unfolding run answers
    run_on start none b c same a = (refl, a)
    run_on start (pair {x} {y} v g) b c same a =
        let w = says_on same v in
        let more = run_on start g (box_after co b x) (box_after co c y) (λ z. reads_kept co law b x z ∙ same z) (alike-after b c x y a w) in
        (rw (answer-alike b c x y a w, more.0) refl, more.1)

    pub run-alike : (b c : BoxOf S) {ss gs : List (List ℕ)} → Paired b.state ss gs → Alike b c
        → (answers co c gs ≡ answers co b ss) × Alike (run co b ss) (run co c gs)
    run-alike b c g a = run_on b.state g b c (λ x. refl) a
