-- Condition 1: "answers or refuses by a number from document 01": which numbers each question can give.
use Prim.Native.Nat.{ℕ, zero, suc, ◌+◌, ◌-◌, ◌≤◌}
use native.Mathlib.Omega.{arith}
use mathlib.Core.Path.{◌≡◌, refl, sym, ap, subst, ◌∙◌}
use mathlib.Core.{Logic.◌⊎◌, Logic.inl, Logic.inr, List.List, List.[], List.◌∷◌, Option.Option, Option.none, Option.some}
use mathlib.Core.Bool.{Bool, true, false, cond, not}
use lib.{ListN.length, Count.ones, Dec.leb, Dec.ltb, Dec.eqb}
use Rattle.rules.specs.Bytes.{Got, refused, got, unless, and_then, giving}
use Rattle.rules.specs.Descriptors.{Descriptor, descriptor, passed, counted, filling, closing}
use Rattle.rules.specs.Layout.{Block, taken, Layout, entry, after, records}
use Rattle.rules.specs.{Form.Front, Form.Form, Form.form, Gathering.Outcome, Said.OfSection, Said.OfOffer, Said.OfTuning}
use Rattle.rules.specs.{declared.Channel.Channel, declared.Signal.Signal, declared.Holding.Holding, declared.Revision.Revision}
use Rattle.rules.specs.{declared.State.State, Steps.Stepped, declared.Answer.Answer, declared.Part.Part, declared.Tuned.Tuned}
use Rattle.rules.specs.Section.{given, header_of, header_by, header, in_front, structure, revision, Content, content_of, content, whole, Reading}
use Rattle.rules.specs.Section.{wrong, right, read, read_section, check_of, check, asked_of, ask}
use Rattle.rules.specs.Gathering as Gathering
use Rattle.rules.specs.Holding.{limit_of, store_size, holding_of, well_formed, all_of, has_other_last, is_repeat, gone_live, gathering, live_or_stored}
use Rattle.rules.specs.Holding.{held_with, step_of, other_map, read_for, offered_as, offered, Box, answer_to, box}
use Rattle.rules.specs.Tuning.{Plant, plant, found, hidden, tune_signal, tune_khz, tune_carrier, tune_channel, look_up, tune}
use Rattle.rules.specs.declared.Answer.TheVariants.{OtherMap, Repeat, Stored, Live}
use Rattle.rules.proofs.{Right.not_right, Reach.needs-so}
use Rattle.rules.specs.Refusals.{OrRefused}

-- ---- a section: 3 to 11

-- what is refused is refused by one of them
abbrev ByNumber : {A : Type 0} → Got A → Type 0
ByNumber (refused n) = OfSection n
ByNumber (got a rest) = Unit {0}

module _ {A : Type 0} where
  unless-by : (t : Bool) (n : ℕ) (g : Got A) → OfSection n → ByNumber g → ByNumber (unless t n g)
  unfolding unless
  unless-by true n g low h = h
  unless-by false n g low h = low

  module _ {B : Type 0} where
    then_by : (g : Got A) (f : A → List ℕ → Got B) → ByNumber g → ((a : A) (rest : List ℕ) → ByNumber (f a rest)) → ByNumber (and_then g f)
    unfolding and_then
    then_by (refused n) f h k = h
    then_by (got a rest) f h k = k a rest

    giving-by : (f : A → B) (g : Got A) → ByNumber g → ByNumber (giving f g)
    unfolding giving
    giving-by f (refused n) h = h
    giving-by f (got a rest) h = tt

    given_by : (o : Option A) (n : ℕ) (f : A → Got B) → OfSection n → ((a : A) → ByNumber (f a)) → ByNumber (given o n f)
    unfolding given
    given_by none n f low h = low
    given_by (some a) n f low h = h a

abbrev seven : OfSection 7
seven = (omega arith, omega arith)

abbrev eight : OfSection 8
eight = (omega arith, omega arith)

abbrev nine : OfSection 9
nine = (omega arith, omega arith)

abbrev ten : OfSection 10
ten = (omega arith, omega arith)

abbrev eleven : OfSection 11
eleven = (omega arith, omega arith)

descriptor-by : (bs : List ℕ) → ByNumber (descriptor bs)
unfolding descriptor
descriptor-by bs = unless-by _ 8 _ eight (unless-by _ 8 _ eight tt)

passed-by : (n : ℕ) (bs : List ℕ) → ByNumber (passed n bs)
unfolding passed
passed-by zero bs = tt
passed-by (suc n) bs = then_by (descriptor bs) _ (descriptor-by bs) (λ d rest. passed-by n rest)

counted-by : (described : Bool) (bs : List ℕ) → ByNumber (counted described bs)
unfolding counted
counted-by false bs = tt
counted-by true bs = unless-by _ 8 _ eight (passed-by _ _)

filling-by : (n : ℕ) (bs : List ℕ) → ByNumber (filling n bs)
unfolding filling
filling-by zero bs = tt
filling-by (suc n) bs = go (eqb (length bs) 0) _ (then_by (descriptor bs) _ (descriptor-by bs) (λ d rest. giving-by _ (filling n rest) (filling-by n rest)))
  where
    go : (t : Bool) (g : Got (List Descriptor)) → ByNumber g → ByNumber (cond t (got [] bs) g)
    go true g h = tt
    go false g h = h

taken-by : {R : Type 0} (b : Block R) (limits : R → Bool) (bs : List ℕ) → ByNumber (taken b limits bs)
unfolding taken
taken-by b limits bs = unless-by _ 8 _ eight (unless-by _ 9 _ nine (unless-by _ 10 _ ten tt))

module _ {R : Type 0} (l : Layout R) where
  entry-by : (index : ℕ) (bs : List ℕ) → ByNumber (entry l index bs)
  unfolding entry
  entry-by index bs =
      then_by (taken l.block (l.fair index) bs) _ (taken-by l.block (l.fair index) bs)
      (λ r rest. giving-by _ (counted l.described rest) (counted-by l.described rest))

  records-by : (n index : ℕ) (bs : List ℕ) → ByNumber (records l n index bs)
  unfolding records
  records-by zero index bs = tt
  records-by (suc n) index bs =
      then_by (entry l index bs) _ (entry-by index bs) (λ r rest. giving-by _ (records l n (after l r) rest) (records-by n (after l r) rest))

header-by : (bs : List ℕ) → ByNumber (header bs)
unfolding header header_by
header-by bs = unless-by _ 8 _ eight (given_by _ 7 _ seven (λ t. giving-by _ _ (taken-by (header_of (form t)) (form t).limits bs)))

structure-by : (f : Form) (x : Front) (bs : List ℕ) → ByNumber (structure f x bs)
unfolding structure in_front
structure-by f x bs = then_by (in_front f x bs) _ (giving-by _ _ (taken-by f.head (λ h. true) bs)) (λ y rest. giving-by _ _ (records-by (f.layout y) _ _ _))

revision-by : (bs : List (List ℕ)) → ByNumber (revision bs)
unfolding revision
revision-by [] = eleven
revision-by (b ∷ []) = unless-by _ 11 _ eleven (unless-by _ 11 _ eleven tt)
revision-by (b ∷ second ∷ more) = eleven

content-by : (bs : List ℕ) → ByNumber (content bs)
unfolding content content_of closing
content-by bs =
    then_by (header bs) _ (header-by bs) (λ h rest.
    then_by (structure (form h.table) h.front rest) _ (structure-by (form h.table) h.front rest) (λ x tail.
    then_by (filling (length tail) tail) _ (filling-by (length tail) tail) (λ ds end.
    giving-by _ _ (revision-by _))))

whole_by : (s : List ℕ) → ByNumber (whole s)
unfolding whole
whole_by s =
    unless-by _ 3 _ (omega arith, omega arith)
    (unless-by _ 4 _ (omega arith, omega arith)
    (unless-by _ 5 _ (omega arith, omega arith)
    (unless-by _ 6 _ (omega arith, omega arith)
    (content-by _))))

pub read_number : (s : List ℕ) (n : ℕ) → read_section s ≡ wrong n → OfSection n
unfolding read_section read
read_number s n e = go (whole s) (whole_by s) e
  where
    go : (g : Got Content) → ByNumber g → read g ≡ wrong n → OfSection n
    go (refused k) h e = let is : k ≡ n = cc in rw is at h
    go (got c rest) h e = let z : ◌≡◌ {A = ℕ} 0 1 = cc in absurd (omega arith)

-- "The answer is 0 or the refusal."
pub check-number : (s : List ℕ) → (check s ≡ 0) ⊎ OfSection (check s)
unfolding check check_of
check-number s = go (read_section s) refl
  where
    go : (r : Reading) → read_section s ≡ r → (check_of r ≡ 0) ⊎ OfSection (check_of r)
    go (wrong n) e = inr (read_number s n e)
    go (right c) e = inl refl

pub ask-number : (tag : ℕ) (s : List ℕ) (n : ℕ) → ask tag s ≡ wrong n → OfSection n
unfolding ask asked_of
ask-number tag s n e = go (read_section s) refl e
  where
    go : (r : Reading) → read_section s ≡ r → asked_of tag s r ≡ wrong n → OfSection n
    go (wrong k) r q = let is : k ≡ n = cc in read_number s n (r ∙ ap wrong is)
    go (right c) r q = absurd (not_right n _ (sym q))

-- ---- an offer: 1, 2, those of a section, 12 and 13

abbrev Answers : OrRefused Answer → Type 0
Answers (wrong n) = OfOffer n
Answers (right a) = Unit {0}

step-number : (limit : ℕ) (h : Holding) (r : Revision) → Answers (step_of limit h r).answer
unfolding step_of live_or_stored
step-number limit h r = go (leb limit r.last) (has_other_last h r) (is_repeat h r) (eqb (held_with h r) (all_of r.last))
  where
    go : (a b c d : Bool)
        → Answers (cond {A = Stepped} a (record { answer = wrong 12; holding = h })
        (cond b (record { answer = wrong 13; holding = h }) (cond c (record { answer = right Repeat; holding = h })
        (cond d (record { answer = right (Live r.version); holding = gone_live h r })
        (record { answer = right (Stored (r.last + 1 - ones (held_with h r))); holding = gathering h r (held_with h r) }))))).answer
    go true b c d = (omega arith, omega arith)
    go false true c d = (omega arith, omega arith)
    go false false true d = tt
    go false false false true = tt
    go false false false false = tt

offered-as-number : (s : State) (section : List ℕ) (r : Reading) → read_for s section ≡ r → Answers (offered_as s r).answer
unfolding Gathering.offered_as Gathering.stepped read_for
offered-as-number s section (wrong n) e = let low = read_number section n e in (omega (arith, low.0), omega (arith, low.1))
offered-as-number s section (right c) e = go (other_map s c)
  where
    go : (b : Bool)
        → Answers (cond {A = Outcome State} b (record { answer = right OtherMap; state = s })
        (Gathering.stepped box s c.table (step_of (limit_of s) (holding_of s c.table) c.revision))).answer
    go true = tt
    go false = step-number (limit_of s) (holding_of s c.table) c.revision

offered-number : (s : State) (store section : List ℕ) → Answers (offered s store section).answer
unfolding Gathering.offered
offered-number s store section = go (ltb (length store) (store_size (limit_of s))) (well_formed s)
  where
    go : (a b : Bool)
        → Answers (cond {A = Outcome State} a (record { answer = wrong 1; state = s })
        (cond (not b) (record { answer = wrong 2; state = s }) (Gathering.offered_as box s (read_for s section)))).answer
    go true b = (omega arith, omega arith)
    go false false = (omega arith, omega arith)
    go false true = offered-as-number s section (read_for s section) refl

pub offer-number : (b : Box) (section : List ℕ) (n : ℕ) → answer_to b section ≡ wrong n → OfOffer n
unfolding Gathering.answer_to
offer-number b section n e = subst Answers e (offered-number b.state b.store section)

-- ---- tuning: 1, 2, and 14 to 21

abbrev Tunings : OrRefused Tuned → Type 0
Tunings (wrong n) = OfTuning n
Tunings (right (Tuned.Digital h path khz program mode)) = Unit {0}
Tunings (right (Tuned.Analogue h path khz standard scrambled)) = Unit {0}
Tunings (right (Tuned.Application h path source)) = Unit {0}

high : {n : ℕ} → 14 ≤ n → n ≤ 21 → OfTuning n
high a b = inr (a, b)

found-so : {R : Type 0} (o : Option R) (n : ℕ) (f : R → OrRefused Tuned) → OfTuning n → ((r : R) → Tunings (f r)) → Tunings (found o n f)
unfolding found
found-so none n f h k = h
found-so (some r) n f h k = k r

signal-number : (p : Plant) (c : Channel) (khz : ℕ) (s : Signal) → Tunings (tune_signal p c khz s)
unfolding tune_signal
signal-number p c khz (Signal.Analogue scrambled standard) = tt
signal-number p c khz (Signal.Digital program mode) =
    needs-so Tunings _ 21 _ (high (omega arith) (omega arith)) (found-so _ 21 _ (high (omega arith) (omega arith)) (λ m. tt))

channel-number : (p : Plant) (c : Channel) → Tunings (tune_channel p c)
unfolding tune_channel tune_carrier tune_khz
channel-number p c = go (eqb c.application 1)
  where
    go : (b : Bool) → Tunings (cond b (right (Tuned.Application (hidden c) c.path c.source)) (tune_carrier p c))
    go true = tt
    go false =
        needs-so Tunings _ 19 _ (high (omega arith) (omega arith))
        (found-so _ 19 _ (high (omega arith) (omega arith)) (λ e.
        needs-so Tunings _ 20 _ (high (omega arith) (omega arith)) (signal-number p c _ c.signal)))

look-number : (p : Plant) (number : ℕ) → Tunings (look_up p number)
unfolding look_up
look-number p number =
    needs-so Tunings _ 17 _ (high (omega arith) (omega arith)) (found-so _ 18 _ (high (omega arith) (omega arith)) (λ c. channel-number p c.what))

tunings : (s : State) (store : List ℕ) (number : ℕ) → Tunings (tune s store number)
unfolding tune
tunings s store number =
    needs-so Tunings _ 1 _ (inl (omega arith, omega arith))
    (needs-so Tunings _ 2 _ (inl (omega arith, omega arith))
    (needs-so Tunings _ 14 _ (high (omega arith) (omega arith))
    (needs-so Tunings _ 15 _ (high (omega arith) (omega arith))
    (needs-so Tunings _ 16 _ (high (omega arith) (omega arith))
    (look-number (plant s store) number)))))

pub tune-number : (s : State) (store : List ℕ) (number n : ℕ) → tune s store number ≡ wrong n → OfTuning n
tune-number s store number n e = subst Tunings e (tunings s store number)
