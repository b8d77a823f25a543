-- A printed number is its number, however large: read as decimal digits it is the number that was to be printed.
use Prim.Native.Nat.{ℕ, zero, suc, ◌+◌, ◌-◌, ◌*◌, ◌/◌, ◌%◌, ◌^◌, ◌<◌}
use native.Mathlib.{Omega.arith, Nat.pow-suc}
use mathlib.Core.Path.{◌≡◌, refl, ap, ◌∙◌}
use mathlib.Core.Bool.{Bool, true, false, cond}
use mathlib.Core.List.{List, [], ◌∷◌, ◌++◌}
use lib.{Dec.ltb, Pow.pow-add}
use Rattle.rules.specs.Lineup.{digits, decimal}

-- what digits say, those in front said already
abbrev pub value_from : (front : ℕ) → List ℕ → ℕ
value_from front [] = front
value_from front (d ∷ ds) = value_from (front * 10 + (d - 48)) ds

value-append : (front : ℕ) (ds : List ℕ) (d : ℕ) → value_from front (ds ++ (d ∷ [])) ≡ value_from front ds * 10 + (d - 48)
value-append front [] d = refl
value-append front (e ∷ ds) d = value-append (front * 10 + (e - 48)) ds d

-- a number that has no more digits than are allowed
digits-say : (most n : ℕ) → n < 10 ^ suc most → value_from 0 (digits most n) ≡ n
unfolding digits
digits-say zero n h = omega (arith, pow-suc 10 0)
digits-say (suc most) n h = go (ltb n 10) refl (digits-say most (n / 10) (omega (arith, pow-suc 10 (suc most))))
  where
    go : (b : Bool) → ltb n 10 ≡ b → value_from 0 (digits most (n / 10)) ≡ n / 10
        → value_from 0 (cond b ((48 + n) ∷ []) (digits most (n / 10) ++ ((48 + n % 10) ∷ []))) ≡ n
    go true e f = omega arith
    go false e f = value-append 0 (digits most (n / 10)) (48 + n % 10) ∙ omega (arith, f)

-- 10^k is above k, so there are enough
above : (k : ℕ) → k < 10 ^ k
above zero = omega arith
above (suc k) = omega (arith, above k, pow-suc 10 k)

pub decimal-says : (n : ℕ) → value_from 0 (decimal n) ≡ n
unfolding decimal
decimal-says n =
    let k = n / 10 ^ 20 in
    let count : suc (19 + k) ≡ 20 + k = omega arith in
    let all : 10 ^ suc (19 + k) ≡ 100000000000000000000 * 10 ^ k = ap (λ (m : ℕ). 10 ^ m) count ∙ pow-add 10 20 k in
    digits-say (19 + k) n (omega (arith, above k, all))
