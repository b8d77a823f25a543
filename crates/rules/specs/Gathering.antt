-- Document 01, "Holding and going live", once for every collector: the tables that it gathers, where their places are, how it reads a section, and
-- which sections it sets aside by a word. The box is one (`Holding`); another, in small, stands in the crate `examples`.
use Rattle.std.specs.Prelude.{ℕ, ◌+◌, ◌-◌, ◌*◌, Bool, cond, not, List, [], ◌∷◌, ◌++◌, length, take, drop, ltb}
use Rattle.std.proofs.Math.Option.{Option, none, some}
use Rattle.rules.specs.Bytes.{from}
use Rattle.rules.specs.Section.{wrong, right, length_of}
use Rattle.rules.specs.Steps.{Stepped, step_of, takes_in}
use Rattle.rules.specs.declared.Holding.{Holding}
use Rattle.rules.specs.declared.Revision.{Revision}
use Rattle.rules.specs.declared.Answer.{Answer}
use Rattle.rules.specs.Refusals.{OrRefused}

-- of tables T, with states S, that reads sections as contents C
pub record Collector (T S C : Type 0) : Type 1 where
  -- the order of the tables' places in the store, how many tables there are, and the bytes of a place
  pub index : T → ℕ
  pub tables : ℕ
  pub size : ℕ
  -- a state: what is held of a table, and the state with that changed; how many sections a table may have; refusal 2, unless it is well
  -- formed, by test and in words
  pub holding : S → T → Holding
  pub with : S → T → Holding → S
  pub limit : S → ℕ
  pub formed : S → Bool
  pub Formed : S → Type 0
  -- a section: its refusal or its content, as a box of that state reads it; of which table and revision it is
  pub read : S → (section : List ℕ) → OrRefused C
  pub table : C → T
  pub revision : C → Revision
  -- step 1: whether a section that reads right is set aside, by test and in words, and the word that is answered then
  pub aside : S → C → Bool
  pub Aside : S → C → Type 0
  pub word : S → C → OrRefused Answer

-- a state and the store lent with it
pub record BoxOf (S : Type 0) : Type 0 where
  pub state : S
  pub store : List ℕ

-- an answer and the state after it
pub record Outcome (S : Type 0) : Type 0 where
  pub answer : OrRefused Answer
  pub state : S

-- a section's bytes put at the front of a place: the rest of it, all other places and any bytes behind the last place stay
unfoldable pub put : List ℕ → (at : ℕ) → (section : List ℕ) → List ℕ
put store at section = take at store ++ section ++ drop (at + length section) store

module _ {T S C : Type 0} (k : Collector T S C) where
  -- ---- "tables in the order .., each with half 0 then half 1, each half with sections 0 to" the limit

  -- where the place of section n in a half of a table begins
  unfoldable pub place_of : (limit : ℕ) → T → (half n : ℕ) → ℕ
  place_of limit t half n = ((k.index t * 2 + half) * limit + n) * k.size

  -- refusal 1: a store shorter than all places
  unfoldable pub store_size : (limit : ℕ) → ℕ
  store_size limit = k.tables * 2 * limit * k.size

  -- the section in the place that begins there: its first 3 + L bytes
  unfoldable pub section_at : List ℕ → (at : ℕ) → List ℕ
  section_at store at =
      let place = take k.size (from store at) in
      take (3 + length_of place) place

  -- the place of section n in the live half; and in the half that gathering uses, "always .. the other half than the one set,
  -- in a given state where nothing is live too"
  unfoldable pub live_at : S → T → (n : ℕ) → ℕ
  live_at s t n = place_of (k.limit s) t (k.holding s t).half n

  unfoldable pub gathered_at : S → T → (n : ℕ) → ℕ
  gathered_at s t n = place_of (k.limit s) t (1 - (k.holding s t).half) n

  -- ---- an offer: what it answers, and the state after it

  -- the answer, and the state in which that table's holding has moved
  unfoldable pub stepped : S → T → Stepped → Outcome S
  stepped s t r = record { answer = r.answer; state = k.with s t r.holding }

  unfoldable pub offered_as : S → OrRefused C → Outcome S
  offered_as s (wrong n) = record { answer = wrong n; state = s }
  offered_as s (right c) =
      cond (k.aside s c) (record { answer = k.word s c; state = s })
      (stepped s (k.table c) (step_of (k.limit s) (k.holding s (k.table c)) (k.revision c)))

  -- refusals 1 and 2 come first
  unfoldable pub offered : S → (store section : List ℕ) → Outcome S
  offered s store section =
      cond (ltb (length store) (store_size (k.limit s))) (record { answer = wrong 1; state = s })
      (cond (not (k.formed s)) (record { answer = wrong 2; state = s })
      (offered_as s (k.read s section)))

  -- whose table a section touches, if it touches one: none where it does not read right or is set aside
  unfoldable pub touched_by : S → OrRefused C → Option T
  touched_by s (wrong n) = none
  touched_by s (right c) = cond (k.aside s c) none (some (k.table c))

  unfoldable pub touches : S → (section : List ℕ) → Option T
  touches s section = touched_by s (k.read s section)

  -- ---- an offer: the store after it

  unfoldable pub put_as : S → List ℕ → (section : List ℕ) → OrRefused C → List ℕ
  put_as s store section (wrong n) = store
  put_as s store section (right c) = put store (gathered_at s (k.table c) (k.revision c).number) section

  -- "Steps 5 and 6 put the section's bytes at the front of its place"
  unfoldable pub store_after : S → (store section : List ℕ) → List ℕ
  store_after s store section =
      cond (takes_in (offered s store section).answer) (put_as s store section (k.read s section)) store

  -- ---- a run of offers to one box

  unfoldable pub answer_to : BoxOf S → (section : List ℕ) → OrRefused Answer
  answer_to b section = (offered b.state b.store section).answer

  unfoldable pub box_after : BoxOf S → (section : List ℕ) → BoxOf S
  box_after b section =
      record {
        state = (offered b.state b.store section).state;
        store = store_after b.state b.store section;
      }

  unfoldable pub run : BoxOf S → (sections : List (List ℕ)) → BoxOf S
  run b [] = b
  run b (s ∷ ss) = run (box_after b s) ss

  unfoldable pub answers : BoxOf S → (sections : List (List ℕ)) → List (OrRefused Answer)
  answers b [] = []
  answers b (s ∷ ss) = answer_to b s ∷ answers (box_after b s) ss
