-- A clause tried on every value: which of them get an answer, and which bits of a section do when they are turned over.
use Prim.Native.Nat.{ℕ, zero, suc, ◌+◌, ◌-◌, ◌/◌, ◌%◌, ◌^◌}
use mathlib.Core.Bool.{Bool, true, false, cond}
use mathlib.Core.List.{List, [], ◌∷◌, ◌++◌}
use lib.ListN.{replicate}
use lib.Dec.{ltb, eqb}

-- a number in front of others, where the test holds
unfoldable pub keep : Bool → ℕ → List ℕ → List ℕ
keep true i more = i ∷ more
keep false i more = more

-- the numbers to which f gives the answer, of the n numbers from i on, ascending
unfoldable pub answered_from : (ℕ → ℕ) → (answer n i : ℕ) → List ℕ
answered_from f answer zero i = []
answered_from f answer (suc n) i = keep (eqb (f i) answer) i (answered_from f answer n (i + 1))

-- of the numbers below n
unfoldable pub answered : (ℕ → ℕ) → (answer n : ℕ) → List ℕ
answered f answer n = answered_from f answer n 0

-- the bytes with one bit turned over; bits are counted as they are sent, bit 8 is the top one of byte 1
unfoldable pub flipped : List ℕ → (bit : ℕ) → List ℕ
flipped [] bit = []
flipped (b ∷ bs) bit =
    cond (ltb bit 8)
    (cond (eqb (b / 2 ^ (7 - bit) % 2) 0) (b + 2 ^ (7 - bit)) (b - 2 ^ (7 - bit)) ∷ bs)
    (b ∷ flipped bs (bit - 8))

-- the n numbers from i on
unfoldable pub counting : (i n : ℕ) → List ℕ
counting i zero = []
counting i (suc n) = i ∷ counting (i + 1) n

-- what f answers to each number below n
unfoldable pub sweep_from : (ℕ → ℕ) → (i n : ℕ) → List ℕ
sweep_from f i zero = []
sweep_from f i (suc n) = f i ∷ sweep_from f (i + 1) n

unfoldable pub sweep : (n : ℕ) → (ℕ → ℕ) → List ℕ
sweep n f = sweep_from f 0 n

-- a test as a number, 1 where it holds
unfoldable pub as_number : Bool → ℕ
as_number true = 1
as_number false = 0

-- so many zeros and then as many ones, and this so many times: what a bit is over all values of its byte
unfoldable pub halves : (size times : ℕ) → List ℕ
halves size zero = []
halves size (suc times) = replicate size 0 ++ replicate size 1 ++ halves size times

-- ones, then zeros, and this so many times: a test that holds where so many bits are 0
unfoldable pub holding : (held not times : ℕ) → List ℕ
holding held not zero = []
holding held not (suc times) = replicate held 1 ++ replicate not 0 ++ holding held not times

-- these definitions, opened
unfoldable pub swept : Unit {0}
unfolding keep answered_from answered flipped counting sweep_from sweep as_number halves holding
swept = tt
