-- Document 01, "Expected form in each place": "An answer may be an enum. In that case, a definition gives this paper's number and values for
-- each of the enum's cases, and the promises use that definition." The enums that an entry point answers, in the paper's terms.
use Rattle.std.specs.Prelude.{ℕ, ◌≤◌, ◌⊎◌, List, [], ◌∷◌, ◌++◌}
use Prim.Native.String.{String}
use Rattle.std.specs.Prelude.{Option, Some, None}
use Rattle.rules.specs.Section.{read_section, read_as, ask}
use Rattle.rules.specs.Holding.{index_of, offered}
use Rattle.rules.specs.Tuning.{tune}
use Rattle.rules.specs.Label.{labelled}
use Rattle.rules.specs.declared.Mode.{Mode}
use Rattle.rules.specs.declared.SectionHead.{SectionHead}
use Rattle.rules.specs.declared.State.{State}
use Rattle.rules.specs.declared.Part.{Part}
use Rattle.rules.specs.declared.Answer.{Answer}
use Rattle.rules.specs.declared.Tuned.{Tuned}
use Rattle.rules.specs.declared.Labelled.{Labelled}
use Rattle.rules.specs.Refusals.{OrRefused, wrong, right}

-- the number of the refusal, or 0 where there is none; the paper's word; and the values that go with it
pub record Said : Type 0 where
  pub refusal : ℕ
  pub word : String
  pub values : List ℕ

-- "A refusal returns its number only."
unfoldable pub refused_by : (number : ℕ) → Said
refused_by number = record { refusal = number; word = "refusal"; values = [] }

unfoldable pub says : String → List ℕ → Said
says word values = record { refusal = 0; word = word; values = values }

-- ---- a section reads right, "as that table, map, version, number and last"; and, ours, where its closing list begins

unfoldable pub head_values : SectionHead → List ℕ
head_values h =
    index_of h.table
    ∷ h.map
    ∷ h.language.first
    ∷ h.language.second
    ∷ h.language.third
    ∷ h.revision.version
    ∷ h.revision.number
    ∷ h.revision.last
    ∷ h.closing
    ∷ []

unfoldable pub read_said : OrRefused SectionHead → Said
read_said (wrong n) = refused_by n
read_said (right h) = says "reads right" (head_values h)

-- ---- the question for a descriptor: there is none, or its body is a part of the section, which begins there and has so many bytes

unfoldable pub asked_said : OrRefused (Option Part) → Said
asked_said (wrong n) = refused_by n
asked_said (right None) = says "none" []
asked_said (right (Some p)) = says "part" (p.start ∷ p.size ∷ [])

-- ---- an offer: "other map", "repeat", "stored, with how many sections are still missing", "live, with v"

unfoldable pub answer_said : OrRefused Answer → Said
answer_said (wrong n) = refused_by n
answer_said (right Answer.OtherMap) = says "other map" []
answer_said (right Answer.Repeat) = says "repeat" []
answer_said (right (Answer.Stored missing)) = says "stored" (missing ∷ [])
answer_said (right (Answer.Live v)) = says "live" (v ∷ [])

-- ---- a channel number: "digital (frequency, programme, mode record) or analogue (frequency, standard, scrambled), with path and hidden"; an
-- application channel "its application number, path and hidden flag"

unfoldable pub mode_values : Mode → List ℕ
mode_values m = m.system ∷ m.inner ∷ m.split ∷ m.format ∷ m.symbols ∷ []

unfoldable pub tuned_said : OrRefused Tuned → Said
tuned_said (wrong n) = refused_by n
tuned_said (right (Tuned.Digital hidden path khz program mode)) =
    says "digital" (khz ∷ program ∷ mode_values mode ++ (path ∷ hidden ∷ []))
tuned_said (right (Tuned.Analogue hidden path khz standard scrambled)) =
    says "analogue" (khz ∷ standard ∷ scrambled ∷ path ∷ hidden ∷ [])
tuned_said (right (Tuned.Application hidden path number)) = says "application" (number ∷ path ∷ hidden ∷ [])

-- ---- request 2026-01, a label: "the name bytes", a part of the store, which begins there and has so many bytes, or "the fallback label"

unfoldable pub label_said : OrRefused Labelled → Said
label_said (wrong n) = refused_by n
label_said (right (Labelled.Named start size)) = says "name" (start ∷ size ∷ [])
label_said (right Labelled.Fallback) = says "fallback" []

-- ---- what document 01 answers, in these terms: to a section, to the question for a descriptor, to an offer, to a channel number

unfoldable pub section_said : (section : List ℕ) → Said
section_said section = read_said (read_as section (read_section section))

unfoldable pub ask_said : (tag : ℕ) → (section : List ℕ) → Said
ask_said tag section = asked_said (ask tag section)

unfoldable pub offer_said : State → (store section : List ℕ) → Said
offer_said s store section = answer_said (offered s store section).answer

unfoldable pub tune_said : State → (store : List ℕ) → (number : ℕ) → Said
tune_said s store number = tuned_said (tune s store number)

unfoldable pub ask_label_said : State → (store : List ℕ) → (number : ℕ) → Said
ask_label_said s store number = label_said (labelled s store number)

-- ---- the numbers of refusal that each can give

-- a section: 3 to 11
abbrev pub OfSection : ℕ → Type 0
OfSection n = (3 ≤ n) × (n ≤ 11)

-- an offer: 1, 2, those of a section, 12 and 13
abbrev pub OfOffer : ℕ → Type 0
OfOffer n = (1 ≤ n) × (n ≤ 13)

-- tuning: 1, 2, and 14 to 21
abbrev pub OfTuning : ℕ → Type 0
OfTuning n = ((1 ≤ n) × (n ≤ 2)) ⊎ ((14 ≤ n) × (n ≤ 21))

-- a label: 1, 2, and 14 to 18
abbrev pub OfLabel : ℕ → Type 0
OfLabel n = ((1 ≤ n) × (n ≤ 2)) ⊎ ((14 ≤ n) × (n ≤ 18))
