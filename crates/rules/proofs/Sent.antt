-- Every live section is a section of the run (`SentAs`, in specs/Sent.antt), of every collector and of every box in which nothing was live or gathered
-- at the start. From offer to offer is kept, of a version that is gathered, which sections have come since its gathering began, and that of each number
-- the first of them is held or none has come (`Collected`).
use Prim.Native.Nat.{ℕ, ◌-◌, ◌≤◌}
use native.Mathlib.Omega.{arith}
use mathlib.Core.Path.{◌≡◌, refl, sym, ap, subst, ◌∙◌}
use mathlib.Core.{Logic.◌⊎◌, Logic.inl, Logic.inr, Bool.true, Bool.false}
use mathlib.Core.List.{List, [], ◌∷◌, ◌++◌, append-nil, append_assoc}
use lib.Dec.{eqb}
use borrow.Author.Tests.{eqb-true, eq-eqb}
use Rattle.rules.specs.{declared.Holding.Holding, declared.Revision.Revision, Steps.Stepped, Answered.First, Answered.Nowhere}
use Rattle.rules.specs.Steps.{none_live, none_gathered, fresh_holding, holds, is_live, is_gathered, holding_formed, has_other_last, is_repeat, held_with}
use Rattle.rules.specs.Steps.{all_of, gone_live, gathering, step_of, takes_in}
use Rattle.rules.specs.Gathering.{Collector, BoxOf, place_of, section_at, live_at, gathered_at, answer_to, box_after, run}
use Rattle.rules.specs.Offering.{SameLive, GatheredIs, NowHas, Sound, Ready, Checked, Passed, NotOf, TakenIn, Wanted}
use Rattle.rules.specs.Sent.{Throughout, SentAs}
use Rattle.rules.specs.declared.Answer.TheVariants.{Live}
use Rattle.rules.proofs.{Taken.not_so, Taken.differ, Taken.both_left, Taken.both_right, Truths.by-test, Truths.or_right, Right.one_right, Held.holds-all}
use Rattle.rules.proofs.{Formed.formed, Formed.gathered-clauses, Lawful.Lawful, Lawful.same-table, Lawful.aside-no, Lawful.no-aside}
use Rattle.rules.proofs.{Store.same-section, Kept.other-places}
use Rattle.rules.proofs.{Faithful.gathered-low, Faithful.section-placed, Placed.held_stays, Placed.live-section-kept, GoingLive.checked-kept}
use Rattle.rules.proofs.Steps.{gathered-says, gathered-so, gathered-last, has-says, has-so, taken-cases}
use Rattle.rules.proofs.Offers.{not-of, passed-sound, taken_in, untouched, reads_kept, aside-kept, limit-kept, others-kept}
use Rattle.rules.proofs.Offers.{step-answers, step-holds}
use Rattle.rules.proofs.Firsts.{nowhere-none, nowhere-end, first-end, first_more}
use Rattle.rules.specs.Refusals.{right}

-- a section of the gathered version, with its last number, whose own number is not held: neither 13 nor a repeat
module _ (limit : ℕ) (h : Holding) (n : ℕ) (good : holding_formed limit h ≡ true) (on : h.gathered.present ≡ 1) where
  abbrev next : Revision
  next = record { version = h.gathered.version; number = n; last = h.gathered.last }

  not-live-too : is_live h h.gathered.version ≡ false
  unfolding is_live
  not-live-too =
      not_so (is_live h h.gathered.version) (λ e.
      (formed limit h good).apart (eqb-true _ 1 (both_left _ (eqb h.live.version h.gathered.version) e)) on
      (sym (eqb-true _ _ (both_right (eqb h.live.present 1) _ e))))

  same_last : has_other_last h next ≡ false
  unfolding has_other_last is_gathered
  same_last = simp (not-live-too, eq-eqb _ 1 on, eq-eqb h.gathered.version _ refl, eq-eqb h.gathered.last _ refl)

  not-held : holds h.gathered.held n ≡ false → is_repeat h next ≡ false
  unfolding is_repeat is_gathered
  not-held e = simp (not-live-too, eq-eqb _ 1 on, eq-eqb h.gathered.version _ refl, e)

module _ {T S C : Type 0} (co : Collector T S C) where
  open co use {holding as holding_of, limit as limit_of, read as read_for, table as table_of, revision as revision_of, aside as sets_aside}

  -- ---- runs

  pub run-append : (b : BoxOf S) (xs ys : List (List ℕ)) → run co b (xs ++ ys) ≡ run co (run co b xs) ys
  unfolding run
  run-append b [] ys = refl
  run-append b (x ∷ xs) ys = run-append (box_after co b x) xs ys

  run_end : (b : BoxOf S) (xs : List (List ℕ)) (x : List ℕ) → run co b (xs ++ (x ∷ [])) ≡ box_after co (run co b xs) x
  unfolding run
  run_end b xs x = run-append b xs (x ∷ [])

  module _ (So : BoxOf S → Type 0) where
    throughout-end : (b : BoxOf S) (xs : List (List ℕ)) (x : List ℕ) → Throughout co So b xs → So (box_after co (run co b xs) x)
        → Throughout co So b (xs ++ (x ∷ []))
    unfolding run
    throughout-end b [] x t so = (so, tt)
    throughout-end b (y ∷ ys) x t so = (t.0, throughout-end (box_after co b y) ys x t.1 so)

    -- after the first of these, and each behind it
    pub throughout-at : (b : BoxOf S) (x : List ℕ) (xs ys : List (List ℕ)) → Throughout co So b ((x ∷ xs) ++ ys) → So (run co b (x ∷ xs))
    unfolding run
    throughout-at b x [] ys t = t.0
    throughout-at b x (y ∷ xs) ys t = throughout-at (box_after co b x) y xs ys t.1

  module _ (start : BoxOf S) where
    -- a version of a table that is gathered behind these sections: those that came since its gathering began, and of each number that is held the first
    -- of them, of each other none
    record Collected (past : List (List ℕ)) (t : T) (v last : ℕ) (has : ℕ → Type 0) (at : ℕ → List ℕ) : Type 0 where
      before : List (List ℕ)
      meanwhile : List (List ℕ)
      is_past : past ≡ before ++ meanwhile
      not_yet : GatheredIs (holding_of (run co start before).state t) v → ⊥
      goes_on : Throughout co (λ x. GatheredIs (holding_of x.state t) v) (run co start before) meanwhile
      each : (n : ℕ) → has n → First (Wanted co start.state t v last n) meanwhile (at n)
      none : (n : ℕ) → (has n → ⊥) → Nowhere (Wanted co start.state t v last n) meanwhile

    abbrev CollectedIn : (past : List (List ℕ)) → BoxOf S → T → Type 0
    CollectedIn past b t =
        let g = (holding_of b.state t).gathered in
        Collected past t g.version g.last (λ n. holds g.held n ≡ true) (λ n. section_at co b.store (gathered_at co b.state t n))

    -- what goes on holding from offer to offer
    record Traced (past : List (List ℕ)) (b : BoxOf S) : Type 0 where
      is_run : run co start past ≡ b
      reads : (x : List ℕ) → read_for b.state x ≡ read_for start.state x
      aside : (c : C) → sets_aside b.state c ≡ sets_aside start.state c
      gathered : (t : T) → (holding_of b.state t).gathered.present ≡ 1 → Checked co b × CollectedIn past b t
      live : (t : T) → (holding_of b.state t).live.present ≡ 1 → (n : ℕ) → n ≤ (holding_of b.state t).live.last
          → SentAs co start past t n (section_at co b.store (live_at co b.state t n))

    module _ (law : Lawful co) (past : List (List ℕ)) (b : BoxOf S) (x : List ℕ) (w : Traced past b) where
      open law use {formed_so, table_formed}

      abbrev after : BoxOf S
      after = box_after co b x

      abbrev further : List (List ℕ)
      further = past ++ (x ∷ [])

      -- ---- one more section that a version sees while it is gathered

      module _ {t : T} {v last : ℕ} {has : ℕ → Type 0} {at : ℕ → List ℕ} (k : Collected past t v last has at) where
        here : run co (run co start k.before) k.meanwhile ≡ b
        here = sym (run-append start k.before k.meanwhile) ∙ ap (run co start) (sym k.is_past) ∙ w.is_run

        split : further ≡ k.before ++ (k.meanwhile ++ (x ∷ []))
        split = ap (λ (l : List (List ℕ)). l ++ (x ∷ [])) k.is_past ∙ append_assoc k.before k.meanwhile (x ∷ [])

        -- it is gathered still; of what is held then each is the first, of what is not none has come
        collected-on : (now : ℕ → Type 0) (then : ℕ → List ℕ) → GatheredIs (holding_of after.state t) v
            → ((n : ℕ) → now n → First (Wanted co start.state t v last n) (k.meanwhile ++ (x ∷ [])) (then n))
            → ((n : ℕ) → (now n → ⊥) → Nowhere (Wanted co start.state t v last n) (k.meanwhile ++ (x ∷ [])))
            → Collected further t v last now then
        collected-on now then on each none =
            record {
              before = k.before;
              meanwhile = k.meanwhile ++ (x ∷ []);
              is_past = split;
              not_yet = k.not_yet;
              goes_on =
                  throughout-end (λ y. GatheredIs (holding_of y.state t) v) (run co start k.before) k.meanwhile x k.goes_on (rw here on);
              each = each;
              none = none;
            }

        -- it joins: it is the first of its number, and of the others the first is still the one that was
        module _ (number : ℕ) (wanted : Wanted co start.state t v last number x) (new : has number → ⊥) (then : ℕ → List ℕ)
            (there : then number ≡ x)
            (others : (n : ℕ) → (n ≡ number → ⊥) → has n → then n ≡ at n) where
          joined-first : (n : ℕ) → (n ≡ number) ⊎ has n → First (Wanted co start.state t v last n) (k.meanwhile ++ (x ∷ [])) (then n)
          joined-first n (inl e) = rw (e, there) (first-end k.meanwhile x (k.none number new) wanted)
          joined-first n (inr h) =
              let ne : n ≡ number → ⊥ = λ e. new (subst has e h) in rw (others n ne h) (first_more k.meanwhile (x ∷ []) (at n) (k.each n h))

          joined-none : (n : ℕ) → ((n ≡ number) ⊎ has n → ⊥) → Nowhere (Wanted co start.state t v last n) (k.meanwhile ++ (x ∷ []))
          joined-none n out =
              nowhere-end k.meanwhile x (k.none n (λ h. out (inr h)))
              (λ q. let same : q.content ≡ wanted.content = one_right (sym q.reads ∙ wanted.reads) in
              out (inl (ap (λ (r : Revision). r.number) (sym q.revision) ∙ ap (λ (c : C). (revision_of c).number) same
              ∙ ap (λ (r : Revision). r.number) wanted.revision)))

      -- ---- what is live of a table stays

      live_on : (t : T) → SameLive (holding_of after.state t) (holding_of b.state t) → (holding_of after.state t).live.present ≡ 1 → (n : ℕ)
          → n ≤ (holding_of after.state t).live.last
          → SentAs co start further t n (section_at co after.store (live_at co after.state t n))
      live_on t same e n le =
          let s = w.live t (ap (λ l. l.present) (sym same.live) ∙ e) n (rw (← same.live) le) in
          let from = run co start (s.before ++ s.meanwhile) in
          let here : run co from (s.completing ∷ s.behind) ≡ b =
          sym (run-append start (s.before ++ s.meanwhile) (s.completing ∷ s.behind))
          ∙ ap (run co start) (append_assoc s.before s.meanwhile (s.completing ∷ s.behind) ∙ sym s.is_run)
          ∙ w.is_run in
          let So : BoxOf S → Type 0 = λ y. (holding_of y.state t).live ≡ record { present = 1; version = s.version; last = s.last } in
          let stays = subst (Throughout co So from) (sym (append-nil (s.completing ∷ s.behind))) s.stays in
          let was : So b = subst So here (throughout-at So from s.completing s.behind [] stays) in
          record {
            version = s.version;
            last = s.last;
            before = s.before;
            meanwhile = s.meanwhile;
            completing = s.completing;
            behind = s.behind ++ (x ∷ []);
            is_run =
                ap (λ (l : List (List ℕ)). l ++ (x ∷ [])) s.is_run
                ∙ append_assoc s.before (s.meanwhile ++ (s.completing ∷ s.behind)) (x ∷ [])
                ∙ ap (λ (l : List (List ℕ)). s.before ++ l) (append_assoc s.meanwhile (s.completing ∷ s.behind) (x ∷ []));
            not_yet = s.not_yet;
            goes_on = s.goes_on;
            completing_number = s.completing_number;
            completing_is = s.completing_is;
            completes = s.completes;
            stays = throughout-end So from (s.completing ∷ s.behind) x s.stays (rw here (same.live ∙ was));
            first = rw (live-section-kept co law b x t same n (rw (← same.live) le)) s.first;
          }

      -- ---- a table that the section leaves as it was

      module _ (t : T) (same : holding_of after.state t ≡ holding_of b.state t) where
        live-left : (holding_of after.state t).live.present ≡ 1 → (n : ℕ) → n ≤ (holding_of after.state t).live.last
            → SentAs co start further t n (section_at co after.store (live_at co after.state t n))
        live-left = live_on t (rw same (record { live = refl; half = refl }))

        gathered-left : ((holding_of b.state t).gathered.present ≡ 1 → (n : ℕ) → holds (holding_of b.state t).gathered.held n ≡ true
            → section_at co after.store (gathered_at co after.state t n) ≡ section_at co b.store (gathered_at co b.state t n))
            → ((holding_of b.state t).gathered.present ≡ 1 → Checked co b → (n : ℕ) → holds (holding_of b.state t).gathered.held n ≡ false
            → Wanted co start.state t (holding_of b.state t).gathered.version (holding_of b.state t).gathered.last n x → ⊥)
            → (holding_of after.state t).gathered.present ≡ 1 → Checked co after × CollectedIn further after t
        gathered-left places out e =
            let on = ap (λ (h : Holding). h.gathered.present) (sym same) ∙ e in
            let k = (w.gathered t on).1 in
            let checked = (w.gathered t on).0 in
            let held = (holding_of b.state t).gathered.held in
            let then : ℕ → List ℕ = λ n. section_at co after.store (gathered_at co after.state t n) in
            let g = (holding_of b.state t).gathered in
            let now : Collected further t g.version g.last (λ n. holds held n ≡ true) then =
            collected-on k (λ n. holds held n ≡ true) then (rw same (on, refl))
            (λ n h. rw (places on n h) (first_more k.meanwhile (x ∷ []) _ (k.each n h)))
            (λ n no. nowhere-end k.meanwhile x (k.none n no) (out on checked n (not_so (holds held n) no))) in
            (checked-kept co law b x checked, rw same now)

      -- ---- kept out: whoever sends the first of a number, with the gathered version and last, is not kept out

      not-wanted : takes_in (answer_to co b x) ≡ false → (t : T) → (holding_of b.state t).gathered.present ≡ 1 → Checked co b → (n : ℕ)
          → holds (holding_of b.state t).gathered.held n ≡ false
          → Wanted co start.state t (holding_of b.state t).gathered.version (holding_of b.state t).gathered.last n x → ⊥
      not-wanted out t on checked n lacks q =
          go (table_of q.content) (revision_of q.content) q.table q.revision (passed-sound co law _ _ x q.content p)
          (step-answers co law b x q.content p)
        where
          p : Passed co b.state b.store x q.content
          p =
              record {
                roomy = checked.roomy;
                good = checked.good;
                reads = w.reads x ∙ q.reads;
                ours = no-aside co law b.state q.content (w.aside q.content ∙ aside-no co law start.state q.content q.ours);
              }

          h : Holding
          h = holding_of b.state t

          good : holding_formed (limit_of b.state) h ≡ true
          good = table_formed b.state t (formed_so b.state checked.good)

          go : (u : T) (r : Revision) → u ≡ t → r ≡ next (limit_of b.state) h n good on
              → Sound (holding_of b.state u) r (limit_of b.state)
              → answer_to co b x ≡ (step_of (limit_of b.state) (holding_of b.state u) r).answer → ⊥
          go u r eu er f e =
              let sound : Sound h (next (limit_of b.state) h n good on) (limit_of b.state) = rw (eu, er) at f in
              let is : answer_to co b x ≡ (step_of (limit_of b.state) h (next (limit_of b.state) h n good on)).answer = rw (eu, er) at e in
              let ready : Ready h (next (limit_of b.state) h n good on) (limit_of b.state) =
              record { sound = sound; low = (gathered-clauses (limit_of b.state) h good on).0; apart = same_last (limit_of b.state) h n good on } in
              let takes = taken-cases h (next (limit_of b.state) h n good on) (limit_of b.state) (λ (s : Stepped). takes_in s.answer ≡ true)
              (record { ready = ready; new = not-held (limit_of b.state) h n good on lacks }) (λ all. refl) (λ few. refl) in
              differ (sym takes ∙ ap takes_in (sym is) ∙ out)

      -- ---- taken in

      module _ (c : C) (k : TakenIn co b x c) where
        abbrev t : T
        t = table_of c

        abbrev r : Revision
        r = revision_of c

        abbrev h : Holding
        h = holding_of b.state t

        abbrev limit : ℕ
        limit = limit_of b.state

        only : (d : C) → TakenIn co b x d → d ≡ c
        only d l = one_right (sym l.passed.reads ∙ k.passed.reads)

        good : holding_formed limit h ≡ true
        good = k.taking.ready.sound.good

        wanted : Wanted co start.state t r.version r.last r.number x
        wanted =
            record {
              content = c;
              reads = sym (w.reads x) ∙ k.passed.reads;
              ours = no-aside co law start.state c (sym (w.aside c) ∙ aside-no co law b.state c k.passed.ours);
              table = refl;
              revision = refl;
            }

        -- held of its version before it
        abbrev Had : ℕ → Type 0
        Had n = GatheredIs h r.version × (holds h.gathered.held n ≡ true)

        abbrev was : ℕ → List ℕ
        was n = section_at co b.store (gathered_at co b.state t n)

        abbrev then : ℕ → List ℕ
        then n = section_at co after.store (gathered_at co b.state t n)

        -- the gathering that it joins, or begins
        joins : Collected past t r.version r.last Had was
        joins = by-test (is_gathered h r.version) goes begins
          where
            goes : is_gathered h r.version ≡ true → Collected past t r.version r.last Had was
            goes e =
                let named = gathered-says h r.version e in
                let g : Collected past t r.version r.last (λ n. holds h.gathered.held n ≡ true) was =
                rw (named.1, gathered-last h r k.taking.ready.apart e) at (w.gathered t named.0).1 in
                record {
                  before = g.before;
                  meanwhile = g.meanwhile;
                  is_past = g.is_past;
                  not_yet = g.not_yet;
                  goes_on = g.goes_on;
                  each = λ n had. g.each n had.1;
                  none = λ n no. g.none n (λ q. no (named, q));
                }

            begins : is_gathered h r.version ≡ false → Collected past t r.version r.last Had was
            begins e =
                let no : GatheredIs h r.version → ⊥ = λ q. differ (sym (gathered-so h r.version q) ∙ e) in
                record {
                  before = past;
                  meanwhile = [];
                  is_past = sym (append-nil past);
                  not_yet = rw w.is_run no;
                  goes_on = tt;
                  each = λ n had. absurd (no had.0);
                  none = λ n q. nowhere-none;
                }

        -- its own number was not held, and what was stays where it was
        new : Had r.number → ⊥
        unfolding is_repeat
        new (on, q) = differ (sym (or_right (is_live h r.version) _ (simp (gathered-so h r.version on, q))) ∙ k.taking.new)

        others : (n : ℕ) → (n ≡ r.number → ⊥) → Had n → then n ≡ was n
        others n ne (on, q) =
            held_stays co law b x t n (gathered-low limit h good n on.0 q)
            (λ d l e. ne (sym e.1 ∙ ap (λ (z : C). (revision_of z).number) (only d l)))

        is-first : (n : ℕ) → NowHas h r n → First (Wanted co start.state t r.version r.last n) (joins.meanwhile ++ (x ∷ [])) (then n)
        is-first = joined-first joins r.number wanted new then (section-placed co law b x c k) others

        -- what one offer leaves of its own table
        record Own : Type 0 where
          gathered : (holding_of after.state t).gathered.present ≡ 1 → Checked co after × CollectedIn further after t
          live : (holding_of after.state t).live.present ≡ 1 → (n : ℕ) → n ≤ (holding_of after.state t).live.last
              → SentAs co start further t n (section_at co after.store (live_at co after.state t n))

        -- it completes its version
        went : answer_to co b x ≡ right (Live r.version) → held_with h r ≡ all_of r.last → holding_of after.state t ≡ gone_live h r → Own
        unfolding gone_live none_gathered live_at gathered_at run
        went answer all is =
            record {
              gathered = λ e. absurd (omega (arith, ap (λ (u : Holding). u.gathered.present) (sym is) ∙ e));
              live = λ e n le. sent n (rw is at le);
            }
          where
            back : run co start (joins.before ++ joins.meanwhile) ≡ b
            back = run-append start joins.before joins.meanwhile ∙ here joins

            sent : (n : ℕ) → n ≤ r.last → SentAs co start further t n (section_at co after.store (live_at co after.state t n))
            sent n le =
                record {
                  version = r.version;
                  last = r.last;
                  before = joins.before;
                  meanwhile = joins.meanwhile;
                  completing = x;
                  behind = [];
                  is_run = split joins;
                  not_yet = joins.not_yet;
                  goes_on = joins.goes_on;
                  completing_number = r.number;
                  completing_is = wanted;
                  completes = rw back answer;
                  stays = (rw (back, is) refl, tt);
                  first = rw (limit-kept co law b x, is) (is-first n (has-says h r n (ap (λ (held : ℕ). holds held n) all ∙ holds-all r.last n le)));
                }

        -- it joins, and some are missing
        stored : holding_of after.state t ≡ gathering h r (held_with h r) → Own
        unfolding gathering gathered_at
        stored is =
            record {
              gathered = λ e. (checked-kept co law b x (record { roomy = k.passed.roomy; good = k.passed.good }), rw (limit-kept co law b x, is) collected);
              live = live_on t (rw is (record { live = refl; half = refl }));
            }
          where
            collected : Collected further t r.version r.last (λ n. holds (held_with h r) n ≡ true) then
            collected =
                collected-on joins (λ n. holds (held_with h r) n ≡ true) then (rw is (refl, refl))
                (λ n q. is-first n (has-says h r n q))
                (λ n no. joined-none joins r.number wanted new then (section-placed co law b x c k) others n (λ q. no (has-so h r n q)))

        own : Own
        own =
            taken-cases h r limit (λ (s : Stepped). answer_to co b x ≡ s.answer → holding_of after.state t ≡ s.holding → Own) k.taking
            (λ all answer is. went answer all is) (λ few answer is. stored is)
            (step-answers co law b x c k.passed) (step-holds co law b x c k.passed)

        -- and of every table
        each-table : (u : T) → (t ≡ u) ⊎ (t ≡ u → ⊥)
            → ((holding_of after.state u).gathered.present ≡ 1 → Checked co after × CollectedIn further after u)
            × ((holding_of after.state u).live.present ≡ 1 → (n : ℕ) → n ≤ (holding_of after.state u).live.last
            → SentAs co start further u n (section_at co after.store (live_at co after.state u n)))
        unfolding gathered_at
        each-table u (inl q) = rw (← q) (own.gathered, own.live)
        each-table u (inr ne) = (gathered-left u same places (λ on checked n lacks q. ne (table_is q)), live-left u same)
          where
            out : NotOf co b.state u x
            out = not-of co b.state x c u k.passed.reads ne

            same : holding_of after.state u ≡ holding_of b.state u
            same = others-kept co law b x u out

            table_is : {v last n : ℕ} → Wanted co start.state u v last n x → t ≡ u
            table_is q = ap (λ (z : C). table_of z) (one_right (sym k.passed.reads ∙ w.reads x ∙ q.reads)) ∙ q.table

            places : (holding_of b.state u).gathered.present ≡ 1 → (n : ℕ) → holds (holding_of b.state u).gathered.held n ≡ true
                → section_at co after.store (gathered_at co after.state u n) ≡ section_at co b.store (gathered_at co b.state u n)
            places on n q =
                let formed_so = table_formed b.state u (formed_so b.state k.passed.good) in
                rw (limit-kept co law b x, same)
                (same-section co after.store b.store (place_of co limit u (1 - (holding_of b.state u).half) n)
                (other-places co law b x u out (1 - (holding_of b.state u).half) n (omega arith)
                (gathered-low limit (holding_of b.state u) formed_so n on q)))

      -- ---- one offer

      traced-step : Traced further after
      traced-step =
          by-test (takes_in (answer_to co b x))
          (λ e. let c = (taken_in co law b x e).0 in
          let k = (taken_in co law b x e).1 in
          record {
            is_run = box-is;
            reads = λ y. reads_kept co law b x y ∙ w.reads y;
            aside = λ d. aside-kept co law b x d ∙ w.aside d;
            gathered = λ t. (each-table c k t (same-table co law (table_of c) t)).0;
            live = λ t. (each-table c k t (same-table co law (table_of c) t)).1;
          })
          (λ e. let same : after ≡ b = untouched co law b x e in
          let held : (t : T) → holding_of after.state t ≡ holding_of b.state t = λ t. ap (λ (y : BoxOf S). holding_of y.state t) same in
          record {
            is_run = box-is;
            reads = λ y. reads_kept co law b x y ∙ w.reads y;
            aside = λ d. aside-kept co law b x d ∙ w.aside d;
            gathered = λ t.
                gathered-left t (held t) (λ on n q. ap (λ (y : BoxOf S). section_at co y.store (gathered_at co y.state t n)) same) (not-wanted e t);
            live = λ t. live-left t (held t);
          })
        where
          box-is : run co start further ≡ after
          box-is = run_end start past x ∙ ap (λ (y : BoxOf S). box_after co y x) w.is_run

    -- ---- a run

    traced-run : Lawful co → (sections past : List (List ℕ)) (b : BoxOf S) → Traced past b → Traced (past ++ sections) (run co b sections)
    unfolding run
    traced-run law [] past b w = rw (append-nil past) w
    traced-run law (x ∷ xs) past b w =
        rw (← append_assoc past (x ∷ []) xs) (traced-run law xs (past ++ (x ∷ [])) (box_after co b x) (traced-step law past b x w))

    traced-fresh : ((t : T) → holding_of start.state t ≡ fresh_holding) → Traced [] start
    unfolding run fresh_holding none_live none_gathered
    traced-fresh fresh =
        record {
          is_run = refl;
          reads = λ x. refl;
          aside = λ c. refl;
          gathered = λ t e. absurd (omega (arith, ap (λ (h : Holding). h.gathered.present) (sym (fresh t)) ∙ e));
          live = λ t e. absurd (omega (arith, ap (λ (h : Holding). h.live.present) (sym (fresh t)) ∙ e));
        }

  -- whatever is offered to a box in which nothing was live or gathered: each live section is, byte for byte, one of the run
  pub live-sent : Lawful co → (start : BoxOf S) → ((t : T) → holding_of start.state t ≡ fresh_holding) → (sections : List (List ℕ)) (t : T)
      → (holding_of (run co start sections).state t).live.present ≡ 1 → (n : ℕ) → n ≤ (holding_of (run co start sections).state t).live.last
      → SentAs co start sections t n (section_at co (run co start sections).store (live_at co (run co start sections).state t n))
  live-sent law start fresh sections = (traced-run start law sections [] start (traced-fresh start fresh)).live
