-- Request 2026-01: "either way a part of what was lent and no copy". Where the records of a live table stand: each with the place of the store at
-- which its bytes begin.
use Rattle.std.specs.Prelude.{ℕ, zero, suc, ◌+◌, ◌-◌, List, [], ◌∷◌, length}
use Rattle.rules.specs.Bytes.{Got, refused, got}
use Rattle.rules.specs.Layout.{Layout, taken, Numbered, entry, after}
use Rattle.rules.specs.Form.{Form, form}
use Rattle.rules.specs.Section.{header_of, in_front, without_crc}
use Rattle.rules.specs.Holding.{section_at, live_at}
use Rattle.rules.specs.Search.{sections}
use Rattle.rules.specs.Tuning.{live_count}
use Rattle.rules.specs.declared.Table.{Table}
use Rattle.rules.specs.declared.State.{State}

pub record Standing (R : Type 0) : Type 0 where
  pub row : Numbered R
  pub at : ℕ

-- what is made of what was got; of a refusal nothing
unfoldable pub of_got : {A B : Type 0} → Got A → (A → List ℕ → List B) → List B
of_got (refused n) f = []
of_got (got a rest) f = f a rest

-- as `records`: the bytes end at a place of the store, so a record stands as many bytes before it as are left
unfoldable pub standing : {R : Type 0} → Layout R → (n index end : ℕ) → List ℕ → List (Standing R)
standing l zero index end bs = []
standing l (suc n) index end bs =
    of_got (entry l index bs) (λ r rest. record { row = r; at = end - length bs } ∷ standing l n (after l r) end rest)

-- those of a section without its CRC, behind its header and the head of its structure
unfoldable pub standing_of : (f : Form) → (end : ℕ) → List ℕ → List (Standing f.Row)
standing_of f end bs =
    of_got (taken (header_of f) f.limits bs) (λ x rest.
    of_got (in_front f x rest) (λ y behind. standing (f.layout y) y.count y.first end behind))

-- those of section n of a live table; and of all its sections, lowest first
unfoldable pub standing_in : State → List ℕ → (t : Table) → (n : ℕ) → List (Standing (form t).Row)
standing_in s store t n =
    let b = without_crc (section_at store (live_at s t n)) in
    standing_of (form t) (live_at s t n + length b) b

unfoldable pub live_standing : State → List ℕ → (t : Table) → List (Standing (form t).Row)
live_standing s store t = sections (standing_in s store t) (live_count s t) 0
