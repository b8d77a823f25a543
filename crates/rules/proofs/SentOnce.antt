-- `SentAs` (specs/Sent.antt) names one section: of a run, a table and a number, two that it is told of are equal, byte for byte. The section that completed
-- the live version is the last that did so; its gathering began where the version was not yet gathered; and of those that came since one is the first.
use Prim.Native.Nat.{ℕ}
use mathlib.Core.Path.{◌≡◌, refl, sym, ap, subst, ◌∙◌}
use mathlib.Core.{Logic.◌⊎◌, Logic.inl, Logic.inr, Bool.true, Bool.false}
use mathlib.Core.List.{List, [], ◌∷◌, ◌++◌, append-nil, append_assoc}
use borrow.Author.Tests.{eq-eqb}
use Rattle.rules.specs.{Steps.is_live, Answered.First, declared.Holding.Holding, declared.LiveVersion.LiveVersion, declared.Revision.Revision}
use Rattle.rules.specs.Gathering.{Collector, BoxOf, box_after, run}
use Rattle.rules.specs.{Offering.GatheredIs, Offering.Wanted, Sent.Throughout, Sent.SentAs}
use Rattle.rules.proofs.{Truths.differ, Right.one_right, Lawful.Lawful, Offers.reads_kept, Offers.went-live}
use Rattle.rules.proofs.{Firsts.two_ways, Firsts.first-once, Sent.run-append, Sent.throughout-at}

module _ {T S C : Type 0} (co : Collector T S C) where
  open co use {holding as holding_of, read as read_for, table as table_of, revision as revision_of}

  module _ (law : Lawful co) where
    reads-run : (b : BoxOf S) (xs : List (List ℕ)) (x : List ℕ) → read_for (run co b xs).state x ≡ read_for b.state x
    unfolding run
    reads-run b [] x = refl
    reads-run b (y ∷ ys) x = reads-run (box_after co b y) ys x ∙ reads_kept co law b y x

    module _ (start : BoxOf S) (sections : List (List ℕ)) (t : T) (n : ℕ) where
      module _ {x : List ℕ} (s : SentAs co start sections t n x) where
        -- what came up to the section that completed the version
        abbrev up_to : List (List ℕ)
        up_to = s.before ++ s.meanwhile

        abbrev so : LiveVersion
        so = record { present = 1; version = s.version; last = s.last }

        parts : sections ≡ up_to ++ (s.completing ∷ s.behind)
        parts = s.is_run ∙ sym (append_assoc s.before s.meanwhile (s.completing ∷ s.behind))

        -- the version was not live before
        not_live : is_live (holding_of (run co start up_to).state t) s.version ≡ false
        not_live =
            let l = went-live co law (run co start up_to) s.completing s.version s.completes in
            let w = s.completing_is in
            let same : l.content ≡ w.content = one_right (sym l.reads ∙ reads-run start up_to s.completing ∙ w.reads) in
            go (table_of l.content) (revision_of l.content) (ap (λ (c : C). table_of c) same ∙ w.table)
            (ap (λ (c : C). (revision_of c).version) same ∙ ap (λ (r : Revision). r.version) w.revision) l.went.new
          where
            go : (u : T) (r : Revision) → u ≡ t → r.version ≡ s.version → is_live (holding_of (run co start up_to).state u) r.version ≡ false
                → is_live (holding_of (run co start up_to).state t) s.version ≡ false
            go u r eu er e = rw (← eu, ← er) e

        -- and is then
        lives : (holding_of (box_after co (run co start up_to) s.completing).state t).live ≡ so
        lives = s.stays.0

      live-is_live : (h : Holding) (v last : ℕ) → h.live ≡ record { present = 1; version = v; last = last } → is_live h v ≡ true
      unfolding is_live
      live-is_live h v last e = rw e (eq-eqb v v refl)

      -- no section behind it completed the version that is live now
      last_one : {x y : List ℕ} (s : SentAs co start sections t n x) (u : SentAs co start sections t n y) (rest : List (List ℕ))
          → up_to s ≡ up_to u ++ (u.completing ∷ rest) → u.behind ≡ rest ++ (s.completing ∷ s.behind) → ⊥
      unfolding run
      last_one s u rest e f =
          let So : BoxOf S → Type 0 = λ b. (holding_of b.state t).live ≡ so u in
          let there : run co (run co start (up_to u)) (u.completing ∷ rest) ≡ run co start (up_to s) =
          sym (run-append co start (up_to u) (u.completing ∷ rest)) ∙ ap (run co start) (sym e) in
          let stays : Throughout co So (run co start (up_to u)) ((u.completing ∷ rest) ++ (s.completing ∷ s.behind)) = rw (← f) u.stays in
          let before : So (run co start (up_to s)) =
          subst So there (throughout-at co So (run co start (up_to u)) u.completing rest (s.completing ∷ s.behind) stays) in
          let more : Throughout co So (run co start (up_to u)) ((u.completing ∷ (rest ++ (s.completing ∷ []))) ++ s.behind) =
          rw (append_assoc rest (s.completing ∷ []) s.behind) stays in
          let one : run co (run co start (up_to u)) (u.completing ∷ (rest ++ (s.completing ∷ []))) ≡ box_after co (run co start (up_to s)) s.completing =
          run-append co (run co start (up_to u)) (u.completing ∷ rest) (s.completing ∷ []) ∙ ap (λ (b : BoxOf S). box_after co b s.completing) there in
          let behind : So (box_after co (run co start (up_to s)) s.completing) =
          subst So one (throughout-at co So (run co start (up_to u)) u.completing (rest ++ (s.completing ∷ [])) s.behind more) in
          let same : u.version ≡ s.version = ap (λ (l : LiveVersion). l.version) (sym behind ∙ lives s) in
          differ (sym (live-is_live (holding_of (run co start (up_to s)).state t) s.version u.last (rw (← same) before)) ∙ not_live s)

      -- nor did the gathering begin earlier
      begins-once : {x y : List ℕ} (s : SentAs co start sections t n x) (u : SentAs co start sections t n y) → s.version ≡ u.version
          → (z : List ℕ) (more : List (List ℕ)) → u.before ≡ s.before ++ (z ∷ more) → s.meanwhile ≡ (z ∷ more) ++ u.meanwhile → ⊥
      begins-once s u v z more e f =
          let So : BoxOf S → Type 0 = λ b. GatheredIs (holding_of b.state t) s.version in
          let on : So (run co (run co start s.before) (z ∷ more)) =
          throughout-at co So (run co start s.before) z more u.meanwhile (subst (Throughout co So (run co start s.before)) f s.goes_on) in
          u.not_yet (rw (← v, e, run-append co start s.before (z ∷ more)) on)

      same-meanwhile : {x y : List ℕ} (s : SentAs co start sections t n x) (u : SentAs co start sections t n y) → s.version ≡ u.version
          → up_to s ≡ up_to u → s.meanwhile ≡ u.meanwhile
      same-meanwhile s u v e = go (two_ways s.before s.meanwhile u.before u.meanwhile e)
        where
          go : ((more : List (List ℕ)) × (u.before ≡ s.before ++ more) × (s.meanwhile ≡ more ++ u.meanwhile))
              ⊎ ((more : List (List ℕ)) × (s.before ≡ u.before ++ more) × (u.meanwhile ≡ more ++ s.meanwhile))
              → s.meanwhile ≡ u.meanwhile
          go (inl ([], p, q)) = q
          go (inl (z ∷ more, p, q)) = absurd (begins-once s u v z more p q)
          go (inr ([], p, q)) = sym q
          go (inr (z ∷ more, p, q)) = absurd (begins-once u s (sym v) z more p q)

      -- where both were completed by the same section of the run
      same_first : {x y : List ℕ} (s : SentAs co start sections t n x) (u : SentAs co start sections t n y) → up_to s ≡ up_to u
          → s.completing ≡ u.completing → x ≡ y
      same_first {x} {y} s u e c =
          let box : box_after co (run co start (up_to s)) s.completing ≡ box_after co (run co start (up_to u)) u.completing = rw (e, c) refl in
          let is : so s ≡ so u = sym (lives s) ∙ ap (λ (b : BoxOf S). (holding_of b.state t).live) box ∙ lives u in
          let v : s.version ≡ u.version = ap (λ (l : LiveVersion). l.version) is in
          let last : s.last ≡ u.last = ap (λ (l : LiveVersion). l.last) is in
          let first : First (Wanted co start.state t u.version u.last n) (u.meanwhile ++ (u.completing ∷ [])) x =
          rw (← v, ← last, ← same-meanwhile s u v e, ← c) s.first in
          first-once (u.meanwhile ++ (u.completing ∷ [])) x y first u.first

      pub sent_once : (x y : List ℕ) → SentAs co start sections t n x → SentAs co start sections t n y → x ≡ y
      sent_once x y s u = go (two_ways (up_to s) (s.completing ∷ s.behind) (up_to u) (u.completing ∷ u.behind) (sym (parts s) ∙ parts u))
        where
          go : ((more : List (List ℕ)) × (up_to u ≡ up_to s ++ more) × ((s.completing ∷ s.behind) ≡ more ++ (u.completing ∷ u.behind)))
              ⊎ ((more : List (List ℕ)) × (up_to s ≡ up_to u ++ more) × ((u.completing ∷ u.behind) ≡ more ++ (s.completing ∷ s.behind)))
              → x ≡ y
          go (inl ([], p, q)) = same_first s u (sym (p ∙ append-nil (up_to s))) cc
          go (inl (z ∷ more, p, q)) =
              let is : z ≡ s.completing = cc in absurd (last_one u s more (p ∙ ap (λ (l : List ℕ). up_to s ++ (l ∷ more)) is) cc)
          go (inr ([], p, q)) = same_first s u (p ∙ append-nil (up_to u)) cc
          go (inr (z ∷ more, p, q)) =
              let is : z ≡ u.completing = cc in absurd (last_one s u more (p ∙ ap (λ (l : List ℕ). up_to u ++ (l ∷ more)) is) cc)
