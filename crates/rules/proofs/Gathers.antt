-- What document 01 and the tender promise of holding and going live, of every lawful collector at once. Of a new collector it is one line:
-- `gathers` of its laws.
use Prim.Native.Nat.{ℕ, ◌≤◌, ◌<◌}
use mathlib.Core.{Path.◌≡◌, Bool.true, Bool.false, Bool.cond, List.List, List.◌∷◌}
use lib.{ListN.length, Dec.eqb}
use Rattle.rules.specs.{Section.right, Steps.fresh_holding, Steps.takes_in, declared.Answer.Answer}
use Rattle.rules.specs.Gathering.{Collector, BoxOf, section_at, live_at, gathered_at, answer_to, box_after, run, answers}
use Rattle.rules.specs.Offering.{is_going_live, SameLive, NowHas, NotOf, TakenIn, NowLive, NowHeld, New, Offering, Promised, Wanted, NoneOther}
use Rattle.rules.specs.{Sent.SentAs, declared.Answer.TheVariants.Stored, declared.Answer.TheVariants.Live}
use Rattle.rules.proofs.{Lawful.Lawful, Placed.held_stays, Placed.live-sections, Placed.live-section-kept, GoingLive.goes_live, Sent.live-sent}
use Rattle.rules.proofs.Offers.{taken_in, untouched, went-live, live-kept, live-changes, others-kept, now-held}
use Rattle.rules.proofs.Offering.{offering, offering-only, complete_lives}
use Rattle.rules.proofs.Faithful.{FaithfulBox, section-placed, faithful-run, faithful-fresh}
use Rattle.rules.proofs.Alike.{Enough, Paired, itself, each-itself, alike-itself, fresh-alike, run-alike}
use Rattle.rules.specs.Refusals.{OrRefused}

module _ {T S C : Type 0} (co : Collector T S C) where
  open co use {holding as holding_of, limit as limit_of, read as read_for, table as table_of, revision as revision_of, aside as sets_aside}

  pub record Gathers : Type 1 where
    -- condition 1: the answer is the one that the checks in their order allow, and no other; what is taken in has passed them all, and every
    -- other answer changes neither state nor store
    pub offer_checked : (b : BoxOf S) (section : List ℕ) → Offering co b section (answer_to co b section)
    pub offer_only : (b : BoxOf S) (section : List ℕ) (a : OrRefused Answer) → Offering co b section a → a ≡ answer_to co b section
    pub taken_checked : (b : BoxOf S) (section : List ℕ) → takes_in (answer_to co b section) ≡ true → (c : C) × TakenIn co b section c
    pub others_leave : (b : BoxOf S) (section : List ℕ) → takes_in (answer_to co b section) ≡ false → box_after co b section ≡ b
    -- condition 2: "A version of a table goes live at the section that completes it"
    pub live_completes : (b : BoxOf S) (section : List ℕ) (v : ℕ) → answer_to co b section ≡ right (Live v) → NowLive co b section v
    pub complete_lives : (b : BoxOf S) (section : List ℕ) (c : C) → New co b section c
        → ((k : ℕ) → k ≤ (revision_of c).last → NowHas (holding_of b.state (table_of c)) (revision_of c) k) → answer_to co b section
        ≡ right (Live (revision_of c).version)
    pub live_is_offered : (b : BoxOf S) (section : List ℕ) (v : ℕ) → answer_to co b section ≡ right (Live v) → (c : C) → read_for b.state section ≡ right c
        → (n : ℕ) → n ≤ (revision_of c).last
        → section_at co (box_after co b section).store (live_at co (box_after co b section).state (table_of c) n)
        ≡ cond (eqb (revision_of c).number n) section (section_at co b.store (gathered_at co b.state (table_of c) n))
    pub taken_is_stored : (b : BoxOf S) (section : List ℕ) (c : C) → TakenIn co b section c
        → section_at co (box_after co b section).store (gathered_at co b.state (table_of c) (revision_of c).number) ≡ section
    pub held_is_kept : (b : BoxOf S) (section : List ℕ) (t : T) (n : ℕ) → n < limit_of b.state
        → ((c : C) → TakenIn co b section c → (table_of c ≡ t) × ((revision_of c).number ≡ n) → ⊥)
        → section_at co (box_after co b section).store (gathered_at co b.state t n) ≡ section_at co b.store (gathered_at co b.state t n)
    -- "and at no other moment"
    pub no_other_moment : (b : BoxOf S) (section : List ℕ) → is_going_live (answer_to co b section) ≡ false → (t : T)
        → SameLive (holding_of (box_after co b section).state t) (holding_of b.state t)
    pub that_moment : (b : BoxOf S) (section : List ℕ) (v : ℕ) → answer_to co b section ≡ right (Live v)
        → (t : T) × ((holding_of (box_after co b section).state t).live ≡ (holding_of b.state t).live → ⊥)
    pub missing : (b : BoxOf S) (section : List ℕ) (n : ℕ) → answer_to co b section ≡ right (Stored n) → NowHeld co b section n
    -- "in any order"
    pub in_any_order : (b : BoxOf S) (t : T) (v last n : ℕ) (x : List ℕ) (xs : List (List ℕ)) → Promised co b t v last (x ∷ xs)
        → Wanted co b.state t v last n x
        → NoneOther co b.state t v last xs → (holding_of (run co b (x ∷ xs)).state t).live ≡ record { present = 1; version = v; last = last }
    -- "a section of one table leaves the other tables' live records as they were": all that is held, and the live sections where what is live stays
    pub other_holdings : (b : BoxOf S) (section : List ℕ) (t : T) → NotOf co b.state t section
        → holding_of (box_after co b section).state t ≡ holding_of b.state t
    pub same_sections : (b : BoxOf S) (section : List ℕ) (t : T) → SameLive (holding_of (box_after co b section).state t) (holding_of b.state t)
        → (n : ℕ) → n ≤ (holding_of b.state t).live.last
        → section_at co (box_after co b section).store (live_at co (box_after co b section).state t n) ≡ section_at co b.store (live_at co b.state t n)
    -- of a fresh box, with any store, the places of what is live or held read as they should
    pub live_reads : (start : S) (store : List ℕ) → ((t : T) → holding_of start t ≡ fresh_holding) → (sections : List (List ℕ))
        → FaithfulBox co start (run co (record { state = start; store = store }) sections)
    -- and each live section is a section of the run
    pub live_was_sent : (start : BoxOf S) → ((t : T) → holding_of start.state t ≡ fresh_holding) → (sections : List (List ℕ)) (t : T)
        → (holding_of (run co start sections).state t).live.present ≡ 1 → (n : ℕ) → n ≤ (holding_of (run co start sections).state t).live.last
        → SentAs co start sections t n (section_at co (run co start sections).store (live_at co (run co start sections).state t n))
    -- condition 3: sections that mean the same get the same answers and leave the same state, wherever gathering looks at no more than that (so
    -- growth changes nothing); nor does what stood in a fresh box's store matter
    pub same_run : {M : Type 0} (means : C → M) → Enough co means → (b : BoxOf S) {ss gs : List (List ℕ)} → Paired co means b.state ss gs
        → (answers co b gs ≡ answers co b ss) × ((run co b gs).state ≡ (run co b ss).state)
    pub any_store : (start : S) (store other : List ℕ) → ((t : T) → holding_of start t ≡ fresh_holding) → length other ≡ length store
        → (sections : List (List ℕ))
        → (answers co (record { state = start; store = other }) sections ≡ answers co (record { state = start; store = store }) sections)
        × ((run co (record { state = start; store = other }) sections).state ≡ (run co (record { state = start; store = store }) sections).state)

  pub gathers : Lawful co → Gathers
  gathers law =
      record {
        offer_checked = offering co law;
        offer_only = offering-only co law;
        taken_checked = taken_in co law;
        others_leave = untouched co law;
        live_completes = went-live co law;
        complete_lives = complete_lives co law;
        live_is_offered = live-sections co law;
        taken_is_stored = section-placed co law;
        held_is_kept = held_stays co law;
        no_other_moment = live-kept co law;
        that_moment = live-changes co law;
        missing = now-held co law;
        in_any_order = goes_live co law;
        other_holdings = others-kept co law;
        same_sections = live-section-kept co law;
        live_reads = λ start store fresh sections. faithful-run co law start sections _ (faithful-fresh co start store fresh);
        live_was_sent = live-sent co law;
        same_run = λ means enough b g. let r = run-alike co means law enough b b g (alike-itself co means b) in (r.0, r.1.state);
        any_store = λ start store other fresh e sections.
            let r = run-alike co (λ c. c) law (itself co) _ _ (each-itself co (λ c. c) start sections) (fresh-alike co (λ c. c) start store other fresh e) in
            (r.0, r.1.state);
      }
