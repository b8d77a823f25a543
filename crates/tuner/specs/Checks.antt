-- The checks of tuning that no channel number changes, and the listings that are lent with the question.
use Rattle.std.specs.Prelude.{ℕ, zero, suc}
use mathlib.Core.{Bool.cond, List.List}
use lib.{ListN.length, Dec.leb}
use Rattle.rules.specs.{Holding.limit_of, Holding.store_size, Holding.well_formed, Tuning.all_live, Tuning.all_read, Tuning.hidden}
use Rattle.rules.specs.{declared.Channel.Channel, declared.Tuned.Tuned, declared.State.State}
use Rattle.rules.specs.Refusals.{OrRefused, wrong, right}
use Rattle.rules.specs.declared.Table.TheVariants.{Cds, Mms, Vcm, Dcm}
use Rattle.search.specs.Listing.{Lists}

-- "1, 2, 14, 15, 16" without 14: the first that holds, or 0
unfoldable pub checks : State → List ℕ → ℕ
checks s store =
    cond (leb (store_size (limit_of s)) (length store))
    (cond (well_formed s)
    (cond (all_live s)
    (cond (all_read s store) 0 16) 15) 2) 1

-- what the code answers: the refusal of that number, or no refusal
abbrev pub checked_as : ℕ → OrRefused Unit
checked_as zero = right tt
checked_as (suc n) = wrong (suc n)

-- listings of the four tables: the ranges and records of channels, the carriers and modes of indices
pub record AllListed (s : State) (store ranges channels carriers modes : List ℕ) : Type 0 where
  pub ranges_listed : Lists s store Dcm ranges
  pub channels_listed : Lists s store Vcm channels
  pub carriers_listed : Lists s store Cds carriers
  pub modes_listed : Lists s store Mms modes

-- what an application channel answers
unfoldable pub application_of : Channel → Tuned
application_of c = Tuned.Application (hidden c) c.path c.source
