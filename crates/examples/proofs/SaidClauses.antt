-- "A definition gives this paper's number and values for each of the enum's cases": each case of the five enums, computed, with another value in every field.
use native.Mathlib.Omega.{arith}
use mathlib.Core.Path.{◌≡◌, refl}
use mathlib.Core.Logic.{◌⊎◌, inl, inr}
use mathlib.Core.List.{[], ◌∷◌, map}
use mathlib.Core.Option.{none, some}
use lib.ListN.{replicate}
use Rattle.rules.specs.Holding.{fresh, outcome}
use Rattle.rules.specs.Lineup.{english}
use Rattle.rules.specs.Offering.{is_going_live}
use Rattle.rules.specs.Answered.{khz_of}
use Rattle.rules.specs.Labelling.{refused, name, lent, told_label}
use Rattle.rules.specs.Said.{read_said, asked_said, answer_said, tuned_said, label_said, section_said, ask_said, offer_said, tune_said, ask_label_said}
use Rattle.rules.specs.Said.{OfSection, OfOffer, OfTuning, OfLabel}
use Rattle.rules.specs.declared.Table.TheVariants.{Cds, Mms, Vcm, Dcm, Ntt}
use Rattle.rules.specs.declared.Answer.TheVariants as Answer
use Rattle.rules.specs.declared.Tuned.TheVariants as Tuned
use Rattle.rules.specs.declared.Labelled.TheVariants as Labelled
use Rattle.rules.proofs.Hex.{hex}
use Rattle.rules.proofs.Computed.{computed}
use Rattle.examples.proofs.Plants.{plant_dcm}
use Rattle.examples.proofs.Sweeps.{swept, as_number}
use Rattle.rules.specs.Refusals.{wrong, right, number, by_number}
use Rattle.rules.specs.Steps.{none_gathered, fresh_holding, stepped}
use Rattle.rules.specs.Section.{part}
use Rattle.std.specs.Prelude.{ℕ, Some, None, Ok, Err}
use Rattle.rules.specs.declared.Refusal.TheVariants as Refusal
use Rattle.rules.specs.declared.Holding.{Holding}

-- something held that is not what a fresh box holds
abbrev other : Holding
other = record { live = record { present = 1; version = 6; last = 1 }; gathered = none_gathered; half = 0 }

pub record SaidClauses : Type 0 where
  -- the paper's numbers, one for each refusal
  pub numbers :
      map number (
      Refusal.ShortStore ∷ Refusal.BadState ∷ Refusal.BadSize ∷ Refusal.NoTableNumber ∷ Refusal.BadCrc ∷ Refusal.OtherProtocol ∷
      Refusal.NoTable ∷ Refusal.CutShort ∷ Refusal.ZeroBits ∷ Refusal.OutOfLimits ∷ Refusal.BadRevision ∷ Refusal.TooManySections ∷
      Refusal.OtherLast ∷ Refusal.NoChannelNumber ∷ Refusal.NotLive ∷ Refusal.Unreadable ∷ Refusal.NotDefined ∷ Refusal.NoRecord ∷
      Refusal.NoCarrier ∷ Refusal.OutOfReach ∷ Refusal.NoMode ∷ [])
      ≡ 1 ∷ 2 ∷ 3 ∷ 4 ∷ 5 ∷ 6 ∷ 7 ∷ 8 ∷ 9 ∷ 10 ∷ 11 ∷ 12 ∷ 13 ∷ 14 ∷ 15 ∷ 16 ∷ 17 ∷ 18 ∷ 19 ∷ 20 ∷ 21 ∷ []
  -- what the code answers, so told: an answer, or its refusal's number; and a refusal leaves what is held and the state as they were
  pub told_right : by_number {A = ℕ} (Ok 7) ≡ right 7
  pub told_wrong : by_number {A = ℕ} (Err Refusal.OutOfReach) ≡ wrong 20
  pub told_step :
      stepped fresh_holding (Ok (record { answer = Answer.Repeat; holding = other }))
      ≡ record { answer = right Answer.Repeat; holding = other }
  pub told_step_refused :
      map (λ h. stepped h (Err Refusal.OtherLast)) (fresh_holding ∷ other ∷ [])
      ≡ record { answer = wrong 13; holding = fresh_holding } ∷ record { answer = wrong 13; holding = other } ∷ []
  pub told_offer :
      outcome (fresh 1 english) (Ok (record { answer = Answer.Live 5; state = fresh 2 english }))
      ≡ record { answer = right (Answer.Live 5); state = fresh 2 english }
  pub told_offer_refused :
      map (λ s. outcome s (Err Refusal.BadCrc)) (fresh 1 english ∷ fresh 2 english ∷ [])
      ≡ record { answer = wrong 5; state = fresh 1 english } ∷ record { answer = wrong 5; state = fresh 2 english } ∷ []
  pub refusals :
      read_said (wrong 3) ∷ asked_said (wrong 4) ∷ answer_said (wrong 5) ∷ tuned_said (wrong 6)
      ∷ label_said (wrong 7) ∷ []
      ≡ map (λ n. record { refusal = n; word = "refusal"; values = [] }) (3 ∷ 4 ∷ 5 ∷ 6 ∷ 7 ∷ [])
  pub reads :
      map
      (λ t.
      read_said
      (right
      (record {
        table = t;
        map = 258;
        language = record { first = 0x65; second = 0x6E; third = 0x67 };
        revision = record { version = 5; number = 1; last = 3 };
        closing = 19;
      })))
      (Cds ∷ Mms ∷ Vcm ∷ Dcm ∷ Ntt ∷ [])
      ≡ map (λ t. record { refusal = 0; word = "reads right"; values = t ∷ 258 ∷ 0x65 ∷ 0x6E ∷ 0x67 ∷ 5 ∷ 1 ∷ 3 ∷ 19 ∷ [] }) (0 ∷ 1 ∷ 2 ∷ 3 ∷ 4 ∷ [])
  pub asked :
      map asked_said (right None ∷ right (Some (part 9 2)) ∷ [])
      ≡ record { refusal = 0; word = "none"; values = [] } ∷ record { refusal = 0; word = "part"; values = 9 ∷ 2 ∷ [] } ∷ []
  pub answers :
      map answer_said (right Answer.OtherMap ∷ right Answer.Repeat ∷ right (Answer.Stored 2) ∷ right (Answer.Live 31) ∷ [])
      ≡ record { refusal = 0; word = "other map"; values = [] }
      ∷ record { refusal = 0; word = "repeat"; values = [] }
      ∷ record { refusal = 0; word = "stored"; values = 2 ∷ [] }
      ∷ record { refusal = 0; word = "live"; values = 31 ∷ [] }
      ∷ []
  pub digital :
      tuned_said (right (Tuned.Digital 1 0 63000 3 (record { system = 2; inner = 15; split = 4; format = 8; symbols = 5056941 })))
      ≡ record { refusal = 0; word = "digital"; values = 63000 ∷ 3 ∷ 2 ∷ 15 ∷ 4 ∷ 8 ∷ 5056941 ∷ 0 ∷ 1 ∷ [] }
  pub analogue : tuned_said (right (Tuned.Analogue 1 0 63000 4 5)) ≡ record { refusal = 0; word = "analogue"; values = 63000 ∷ 4 ∷ 5 ∷ 0 ∷ 1 ∷ [] }
  pub application : tuned_said (right (Tuned.Application 1 0 7)) ≡ record { refusal = 0; word = "application"; values = 7 ∷ 0 ∷ 1 ∷ [] }
  -- request 2026-01: where the name stands in the store, then how many bytes it has
  pub labels :
      map label_said (right (Labelled.Named 32781 3) ∷ right Labelled.Fallback ∷ [])
      ≡ record { refusal = 0; word = "name"; values = 32781 ∷ 3 ∷ [] } ∷ record { refusal = 0; word = "fallback"; values = [] } ∷ []
  -- the five questions, in these terms
  pub to_section : section_said plant_dcm ≡ record { refusal = 0; word = "reads right"; values = 3 ∷ 258 ∷ 0 ∷ 0 ∷ 0 ∷ 5 ∷ 0 ∷ 0 ∷ 13 ∷ [] }
  pub to_descriptor :
      map (λ tag. ask_said tag plant_dcm) (0x93 ∷ 0x94 ∷ [])
      ≡ record { refusal = 0; word = "part"; values = 15 ∷ 3 ∷ [] } ∷ record { refusal = 0; word = "none"; values = [] } ∷ []
  pub to_offer :
      map (λ m. offer_said (fresh m english) (replicate 40960 0) plant_dcm) (258 ∷ 259 ∷ [])
      ≡ record { refusal = 0; word = "live"; values = 5 ∷ [] } ∷ record { refusal = 0; word = "other map"; values = [] } ∷ []
  pub to_channel :
      map (tune_said (fresh 0 english) (replicate 40960 0)) (3 ∷ 4096 ∷ [])
      ≡ record { refusal = 15; word = "refusal"; values = [] } ∷ record { refusal = 14; word = "refusal"; values = [] } ∷ []
  pub to_label :
      map (ask_label_said (fresh 0 english) (replicate 40960 0)) (3 ∷ 4096 ∷ [])
      ≡ record { refusal = 15; word = "refusal"; values = [] } ∷ record { refusal = 14; word = "refusal"; values = [] } ∷ []
  -- what a label tells: the refusal, the name's bytes wherever they stand, or that it is the fallback
  pub told :
      map (told_label (hex "01 02 03 04")) (wrong 17 ∷ right (Labelled.Named 1 2) ∷ right (Labelled.Named 0 4) ∷ right Labelled.Fallback ∷ [])
      ≡ refused 17 ∷ name (hex "02 03") ∷ name (hex "01 02 03 04") ∷ lent ∷ []
  -- the answer of a version that goes live; the frequency that the tuner is sent to, of a digital and an analogue channel and of no other
  pub goes_live :
      map (λ a. as_number (is_going_live a)) (wrong 5 ∷ right Answer.OtherMap ∷ right Answer.Repeat ∷ right (Answer.Stored 1) ∷ right (Answer.Live 5) ∷ [])
      ≡ 0 ∷ 0 ∷ 0 ∷ 0 ∷ 1 ∷ []
  pub sent_to :
      map khz_of
      (wrong 20
      ∷ right (Tuned.Digital 1 0 63000 3 (record { system = 2; inner = 15; split = 4; format = 8; symbols = 5056941 }))
      ∷ right (Tuned.Analogue 1 0 57000 4 5)
      ∷ right (Tuned.Application 1 0 7)
      ∷ [])
      ≡ none ∷ some 63000 ∷ some 57000 ∷ none ∷ []
  -- the numbers that each can give: 3 to 11; 1 to 13; 1, 2 and 14 to 21; 1, 2 and 14 to 18
  pub of_section : OfSection 3 × OfSection 11
  pub of_section_not : (OfSection 2 → ⊥) × (OfSection 12 → ⊥)
  pub of_offer : OfOffer 1 × OfOffer 13
  pub of_offer_not : (OfOffer 0 → ⊥) × (OfOffer 14 → ⊥)
  pub of_tuning : OfTuning 1 × OfTuning 2 × OfTuning 14 × OfTuning 21
  pub of_tuning_not : (OfTuning 0 → ⊥) × (OfTuning 3 → ⊥) × (OfTuning 13 → ⊥) × (OfTuning 22 → ⊥)
  pub of_label : OfLabel 1 × OfLabel 2 × OfLabel 14 × OfLabel 18
  pub of_label_not : (OfLabel 0 → ⊥) × (OfLabel 3 → ⊥) × (OfLabel 13 → ⊥) × (OfLabel 19 → ⊥)

neither : {A B : Type 0} → (A → ⊥) → (B → ⊥) → A ⊎ B → ⊥
neither f g (inl a) = f a
neither f g (inr b) = g b

pub said-clauses : SaidClauses
unfolding computed swept khz_of
said-clauses =
    record {
      numbers = refl;
      told_right = refl;
      told_wrong = refl;
      told_step = refl;
      told_step_refused = refl;
      told_offer = refl;
      told_offer_refused = refl;
      refusals = refl;
      reads = refl;
      asked = refl;
      answers = refl;
      digital = refl;
      analogue = refl;
      application = refl;
      labels = refl;
      to_section = refl;
      to_descriptor = refl;
      to_offer = refl;
      to_channel = refl;
      to_label = refl;
      told = refl;
      goes_live = refl;
      sent_to = refl;
      of_section = ((omega arith, omega arith), (omega arith, omega arith));
      of_section_not = (λ n. omega (arith, n.0), λ n. omega (arith, n.1));
      of_offer = ((omega arith, omega arith), (omega arith, omega arith));
      of_offer_not = (λ n. omega (arith, n.0), λ n. omega (arith, n.1));
      of_tuning =
          (inl (omega arith, omega arith), inl (omega arith, omega arith), inr (omega arith, omega arith), inr (omega arith, omega arith));
      of_tuning_not = (
        neither (λ n. omega (arith, n.0)) (λ n. omega (arith, n.0)),
        neither (λ n. omega (arith, n.1)) (λ n. omega (arith, n.0)),
        neither (λ n. omega (arith, n.1)) (λ n. omega (arith, n.0)),
        neither (λ n. omega (arith, n.1)) (λ n. omega (arith, n.1)),
      );
      of_label =
          (inl (omega arith, omega arith), inl (omega arith, omega arith), inr (omega arith, omega arith), inr (omega arith, omega arith));
      of_label_not = (
        neither (λ n. omega (arith, n.0)) (λ n. omega (arith, n.0)),
        neither (λ n. omega (arith, n.1)) (λ n. omega (arith, n.0)),
        neither (λ n. omega (arith, n.1)) (λ n. omega (arith, n.0)),
        neither (λ n. omega (arith, n.1)) (λ n. omega (arith, n.1)),
      );
    }
