-- What the code's answers about a closing list mean.
use Rattle.std.specs.Prelude.{ℕ, ◌+◌, length, get_or, take}
use mathlib.Core.{Path.◌≡◌, Bool.Bool, Bool.true, Bool.false, List.List, List.[], List.◌∷◌}
use Rattle.rules.specs.Bytes.{Got, refused, got, and_then, from}
use Rattle.rules.specs.{Descriptors.Descriptor, Descriptors.closing, Descriptors.bodies, Section.revision_tag, Section.revision, Section.first_of}
use Rattle.rules.specs.{Refusals.OrRefused, Refusals.wrong, Refusals.right, declared.Revision.Revision, declared.Part.Part}
use Rattle.std.specs.Prelude.{Option}
use Rattle.section.specs.{declared.closing.Seen.Seen}
use Rattle.section.specs.declared.closing.Seen.TheVariants.{Nothing, Once, Again}

-- the closing list, and then its revision
unfoldable pub closed_of : List ℕ → Got Revision
closed_of bs = and_then (closing bs) (λ ds end. revision (bodies revision_tag ds))

-- the bodies met so far; of two or more any two will do
unfoldable pub seen_of : List ℕ → Seen → List (List ℕ)
seen_of b Nothing = []
seen_of b (Once start size) = take size (from b start) ∷ []
seen_of b Again = [] ∷ [] ∷ []

unfoldable pub seen_with : Seen → ℕ → ℕ → Seen
seen_with Nothing start size = Once start size
seen_with (Once s n) start size = Again
seen_with Again start size = Again

-- a closing list that fills its room
unfoldable pub filled : {A : Type 0} → Got A → Bool
filled (refused n) = false
filled (got a rest) = true

unfoldable pub first_in : (tag at : ℕ) → Got (List Descriptor) → OrRefused (Option Part)
first_in tag at (refused n) = wrong n
first_in tag at (got ds rest) = right (first_of tag at ds)

-- one revision descriptor, and nothing behind it
pub record Lone (b : List ℕ) (at : ℕ) : Type 0 where
  pub tag : get_or b at 0 ≡ revision_tag
  pub fills : length b ≡ at + 2 + get_or b (at + 1) 0
