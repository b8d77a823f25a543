-- The product of a byte with what the polynomial leaves of a power stands for the byte at its place with eight zero bytes behind it.
-- Both are joined from what they are at single bits, so it is enough to work the law out at the 64 bits of eight bytes.
use mathlib.Core.Path.{◌≡◌, refl, ap, ◌∙◌}
use mathlib.Core.{List.List, List.[], List.◌∷◌}
use Prim.Native.Nat.{ℕ, zero, suc, ◌+◌, ◌-◌, ◌*◌, ◌/◌, ◌%◌, ◌^◌, ◌≤◌, ◌<◌}
use native.Mathlib.Nat.{add-zero, add-suc, mod-lt, zero-mul, one-mul, lt_of_lt_of_le}
use native.Mathlib.Omega.{arith}
use lib.{Arith.lt-one, Dec.lit<, Bits.bit_xor, Bits.xor_shifted}
use lib.Pow.{pow_pos, pow_mono, pow-lt, pow-add, split, shl_lt, shr_lt}
use Rattle.rules.specs.Crc.{shift, bits_of, shift_all, crc_from}
use Rattle.crc.specs.Folding.{turn, zeros, power, residue, Folded}
use Rattle.crc.proofs.{Xor.bit-cases, Xor.xor-shl, Turns.turns, Turns.turns-joined}
use Rattle.crc.proofs.Folding.{zeros-lt, folded-joined}

-- k times x^(64 + 8 j): the byte leaves a register of 64 bits at the top, and the power comes in for each of its bits that is 1
unfoldable pub times : ℕ → ℕ → ℕ
times j k = turns 63 (power (8 + j)) 8 (k * 2 ^ 56)

-- what the products of the first n bits are, 8 to a byte, and what they have to be: below 2 ^ 40, and of the right residue
unfoldable worked : ℕ → List ℕ
worked zero = []
worked (suc n) = times (n / 8) (2 ^ (n % 8)) / 2 ^ 40 ∷ residue (times (n / 8) (2 ^ (n % 8))) ∷ worked n

unfoldable wanted : ℕ → List ℕ
wanted zero = []
wanted (suc n) = 0 ∷ zeros 8 (residue (2 ^ n)) ∷ wanted n

-- each of the 64 is worked out here, by computation
all_bits : worked 64 ≡ wanted 64
unfolding worked wanted times turns turn power residue crc_from bits_of shift_all shift
all_bits = refl

-- the last of the first i + 1 is of bit i, and what holds of some holds of fewer
at-bit : (i : ℕ) → worked (suc i) ≡ wanted (suc i) → Folded (2 ^ i) (times (i / 8) (2 ^ (i % 8)))
unfolding worked wanted
at-bit i e = let h : times (i / 8) (2 ^ (i % 8)) / 2 ^ 40 ≡ 0 = cc in record { small = omega arith; same = cc }

fewer : (i d : ℕ) → worked (i + d) ≡ wanted (i + d) → worked i ≡ wanted i
unfolding worked wanted
fewer i zero e = rw add-zero at e
fewer i (suc d) e = let h : worked (suc (i + d)) ≡ wanted (suc (i + d)) = rw add-suc at e in fewer i d cc

module _ (j : ℕ) (hj : j < 8) where
  times-joined : (a b : ℕ) → a < 2 ^ 8 → b < 2 ^ 8 → times j (bit_xor a b) ≡ bit_xor (times j a) (times j b)
  unfolding times power
  times-joined a b ha hb =
      let h = zeros-lt (8 + j) 1 (lit< tt) in
      ap (turns 63 (power (8 + j)) 8) (xor-shl 56 a b)
      ∙ turns-joined 63 (power (8 + j)) (omega arith) 8 (a * 2 ^ 56) (b * 2 ^ 56) (omega arith) (omega arith)

  at_zero : Folded (0 * 2 ^ (8 * j)) (times j 0)
  unfolding times turns turn residue crc_from bits_of shift_all shift
  at_zero = rw (zero-mul (2 ^ (8 * j))) (record { small = lit< tt; same = refl })

  at-power : (n : ℕ) → n < 8 → Folded (2 ^ n * 2 ^ (8 * j)) (times j (2 ^ n))
  at-power n hn =
      let i = n + 8 * j in let d = 63 - i in
      let p : i / 8 ≡ j = omega arith in let q : i % 8 ≡ n = omega arith in let r : suc i + d ≡ 64 = omega arith in
      rw (pow-add 2 n (8 * j), p, q) at (at-bit i (fewer (suc i) d (rw r all_bits)))

  placed : (k : ℕ) → k < 2 ^ 8 → k * 2 ^ (8 * j) < 2 ^ 64
  placed k h = lt_of_lt_of_le (shl_lt 8 (8 * j) h) (pow_mono {j = 64} (omega arith))

  -- one bit more on top of x
  one_more : (n : ℕ) → n < 8 → (x : ℕ) → x < 2 ^ n → Folded (x * 2 ^ (8 * j)) (times j x)
      → (y : ℕ) → y < 2 → Folded (bit_xor (y * 2 ^ n) x * 2 ^ (8 * j)) (times j (bit_xor (y * 2 ^ n) x))
  one_more n hn x hx f =
      bit-cases _
      (rw (zero-mul (2 ^ n)) f)
      (let h : 2 ^ n < 2 ^ 8 = pow-lt {j = 8} hn in
      let hx' : x < 2 ^ 8 = lt_of_lt_of_le hx (pow_mono {j = 8} (omega arith)) in
      rw (one-mul (2 ^ n), xor-shl (8 * j) (2 ^ n) x, times-joined (2 ^ n) x h hx')
      (folded-joined (placed (2 ^ n) h) (placed x hx') (at-power n hn) f))

  below : (n : ℕ) → n ≤ 8 → (k : ℕ) → k < 2 ^ n → Folded (k * 2 ^ (8 * j)) (times j k)
  below zero hn k hk = rw (lt-one hk) at_zero
  below (suc n) hn k hk =
      let w : suc n ≡ 1 + n = omega arith in
      let hx = mod-lt k (pow_pos n) in
      let p : bit_xor (k / 2 ^ n * 2 ^ n) (k % 2 ^ n) ≡ k = xor_shifted (k / 2 ^ n) n (k % 2 ^ n) hx ∙ split k n in
      rw p at
      (one_more n (omega arith) (k % 2 ^ n) hx (below n (omega arith) (k % 2 ^ n) hx) (k / 2 ^ n) (shr_lt 1 n (rw w at hk)))

  pub product : (k : ℕ) → k < 2 ^ 8 → Folded (k * 2 ^ (8 * j)) (times j k)
  product = below 8 (omega arith)
