-- A refusal is told by its number, and an answer by what the paper calls it: no two have one number, and no two are told alike.
use Prim.Native.Nat.{ℕ, ◌-◌}
use native.Mathlib.Omega.{arith}
use mathlib.Core.Path.{◌≡◌, refl, sym, ap, ◌∙◌}
use mathlib.Core.List.{List, [], ◌∷◌}
use lib.ListN.{get_or}
use Rattle.std.specs.Prelude.{Result, Ok, Err}
use Rattle.rules.specs.Refusals.{OrRefused, wrong, right, number, by_number}
use Rattle.rules.specs.declared.Refusal.{Refusal}
use Rattle.rules.specs.declared.Refusal.TheVariants as Refusal
use Rattle.rules.specs.{Steps.Stepped, Steps.stepped, Gathering.Outcome, Holding.outcome, declared.Holding.Holding, declared.State.State}
use Rattle.rules.specs.declared.Stepped as code
use Rattle.rules.specs.declared.Offered as offer

-- in the order of their numbers, from 1 on
abbrev refusals : List Refusal
refusals =
    Refusal.ShortStore ∷ Refusal.BadState ∷ Refusal.BadSize ∷ Refusal.NoTableNumber ∷ Refusal.BadCrc ∷ Refusal.OtherProtocol ∷
    Refusal.NoTable ∷ Refusal.CutShort ∷ Refusal.ZeroBits ∷ Refusal.OutOfLimits ∷ Refusal.BadRevision ∷ Refusal.TooManySections ∷
    Refusal.OtherLast ∷ Refusal.NoChannelNumber ∷ Refusal.NotLive ∷ Refusal.Unreadable ∷ Refusal.NotDefined ∷ Refusal.NoRecord ∷
    Refusal.NoCarrier ∷ Refusal.OutOfReach ∷ Refusal.NoMode ∷ []

abbrev refusal_of : ℕ → Refusal
refusal_of n = get_or refusals (n - 1) Refusal.ShortStore

number-of : (r : Refusal) → refusal_of (number r) ≡ r
number-of Refusal.ShortStore = refl
number-of Refusal.BadState = refl
number-of Refusal.BadSize = refl
number-of Refusal.NoTableNumber = refl
number-of Refusal.BadCrc = refl
number-of Refusal.OtherProtocol = refl
number-of Refusal.NoTable = refl
number-of Refusal.CutShort = refl
number-of Refusal.ZeroBits = refl
number-of Refusal.OutOfLimits = refl
number-of Refusal.BadRevision = refl
number-of Refusal.TooManySections = refl
number-of Refusal.OtherLast = refl
number-of Refusal.NoChannelNumber = refl
number-of Refusal.NotLive = refl
number-of Refusal.Unreadable = refl
number-of Refusal.NotDefined = refl
number-of Refusal.NoRecord = refl
number-of Refusal.NoCarrier = refl
number-of Refusal.OutOfReach = refl
number-of Refusal.NoMode = refl

pub same-number : (q r : Refusal) → number q ≡ number r → q ≡ r
same-number q r e = sym (number-of q) ∙ ap refusal_of e ∙ number-of r

-- so an answer is told in one way
pub by_number-once : {A : Type 0} (x y : Result A Refusal) → by_number x ≡ by_number y → x ≡ y
by_number-once (Ok a) (Ok b) e = cc
by_number-once (Ok a) (Err r) e = let z : ◌≡◌ {A = ℕ} 0 1 = cc in absurd (omega arith)
by_number-once (Err q) (Ok b) e = let z : ◌≡◌ {A = ℕ} 0 1 = cc in absurd (omega arith)
by_number-once (Err q) (Err r) e = let n : number q ≡ number r = cc in ap Err (same-number q r n)

pub stepped-once : (h : Holding) (x y : Result code.Stepped Refusal) → stepped h x ≡ stepped h y → x ≡ y
stepped-once h x y e = go x y (ap (λ (s : Stepped). s.answer) e) (ap (λ (s : Stepped). s.holding) e)
  where
    go : (x y : Result code.Stepped Refusal) → (stepped h x).answer ≡ (stepped h y).answer → (stepped h x).holding ≡ (stepped h y).holding → x ≡ y
    go (Ok a) (Ok b) e u = let s : a.answer ≡ b.answer = cc in rw (s, u) refl
    go (Ok a) (Err r) e u = cc
    go (Err q) (Ok b) e u = cc
    go (Err q) (Err r) e u = let n : number q ≡ number r = cc in ap Err (same-number q r n)

pub outcome-once : (s : State) (x y : Result offer.Offered Refusal) → outcome s x ≡ outcome s y → x ≡ y
outcome-once s x y e = go x y (ap (λ (o : Outcome State). o.answer) e) (ap (λ (o : Outcome State). o.state) e)
  where
    go : (x y : Result offer.Offered Refusal) → (outcome s x).answer ≡ (outcome s y).answer → (outcome s x).state ≡ (outcome s y).state → x ≡ y
    go (Ok a) (Ok b) e u = let p : a.answer ≡ b.answer = cc in rw (p, u) refl
    go (Ok a) (Err r) e u = cc
    go (Err q) (Ok b) e u = cc
    go (Err q) (Err r) e u = let n : number q ≡ number r = cc in ap Err (same-number q r n)
