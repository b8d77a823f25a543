-- What an entry point answers, told in the paper's terms too: where the answer is the rule's, so are its number, its word and its values.
use Prim.Native.Nat.{ℕ}
use mathlib.Core.{Path.◌≡◌, Path.ap, List.List}
use Rattle.rules.specs.{Section.read_section, Section.read_as, Section.ask, Holding.offered, Tuning.tune}
use Rattle.rules.specs.{declared.Part.Part, declared.SectionHead.SectionHead, Gathering.Outcome, declared.State.State, declared.Tuned.Tuned}
use Rattle.rules.specs.Said.{read_said, asked_said, answer_said, tuned_said, section_said, ask_said, offer_said, tune_said}
use Rattle.std.specs.Prelude.{Option}
use Rattle.rules.specs.Refusals.{OrRefused}

pub read_told : (s : List ℕ) {r : OrRefused SectionHead} → r ≡ read_as s (read_section s) → (r ≡ read_as s (read_section s)) × (read_said r ≡ section_said s)
unfolding section_said
read_told s e = (e, ap read_said e)

pub ask-told : (tag : ℕ) (s : List ℕ) {r : OrRefused (Option Part)} → r ≡ ask tag s → (r ≡ ask tag s) × (asked_said r ≡ ask_said tag s)
unfolding ask_said
ask-told tag s e = (e, ap asked_said e)

pub offer-told : (s : State) (store section : List ℕ) {x : Outcome State} → x ≡ offered s store section → answer_said x.answer ≡ offer_said s store section
unfolding offer_said
offer-told s store section e = ap (λ (o : Outcome State). answer_said o.answer) e

pub tune-told : (s : State) (store : List ℕ) (number : ℕ) {t : OrRefused Tuned} → t ≡ tune s store number
    → (t ≡ tune s store number) × (tuned_said t ≡ tune_said s store number)
unfolding tune_said
tune-told s store number e = (e, ap tuned_said e)
