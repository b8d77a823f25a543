-- The checks of the label question that no channel number changes, and where a label begins.
use Rattle.std.specs.Prelude.{ℕ}
use mathlib.Core.{Bool.cond, Bool.◌&&◌, List.List}
use lib.{ListN.length, Dec.leb}
use Rattle.rules.specs.{Holding.limit_of, Holding.store_size, Holding.well_formed, Tuning.all_live, Tuning.all_read, Label.names_read}
use Rattle.rules.specs.{declared.Labelled.Labelled, declared.State.State}
use Rattle.rules.specs.Refusals.{OrRefused, wrong, right}
use Rattle.rules.specs.declared.Labelled.TheVariants.{Named, Fallback}
use Rattle.fields.specs.Place.{place_or_end, further}

-- those of tuning, "with 16 for live names too": "1, 2, 14, 15, 16" without 14, the first that holds, or 0
unfoldable pub label_checks : State → List ℕ → ℕ
label_checks s store =
    cond (leb (store_size (limit_of s)) (length store))
    (cond (well_formed s)
    (cond (all_live s)
    (cond (all_read s store && names_read s store) 0 16) 15) 2) 1

-- the address of a label, by those of the store and of the fallback: a name begins in the store (that its place is inside the store is
-- `name-inside`), any other label where the fallback does
unfoldable pub label_place : (store : List ℕ) → (in_store in_fallback : ℕ × ℕ) → OrRefused Labelled → ℕ × ℕ
label_place store in_store in_fallback (wrong n) = in_fallback
label_place store in_store in_fallback (right (Named start size)) = further in_store (place_or_end store start)
label_place store in_store in_fallback (right Fallback) = in_fallback
