-- Laws of xor on ℕ that lib.Bits lacks: operands change places, and a move up passes through.
-- Bit by bit: a number is its half and its lowest bit, and a fact of single bits holds at 0 and at 1 by computation.
use mathlib.Core.Path.{◌≡◌, refl, sym, ap, ap₂, ◌∙◌}
use Prim.Native.Nat.{ℕ, zero, suc, ◌+◌, ◌*◌, ◌/◌, ◌%◌, ◌^◌, ◌<◌}
use native.Mathlib.{Nat.add-zero, Omega.arith}
use lib.{Arith.bin_ind, Pow.pow_pos}
use lib.Bits.{bit_xor, differ, xor_step, xor_block, xor_shr, xor_mod, xor_comm}

-- a number below 2 is 0 or 1
pub bit-cases : (P : ℕ → Type 0) → P 0 → P 1 → (n : ℕ) → n < 2 → P n
bit-cases P p0 p1 zero h = p0
bit-cases P p0 p1 (suc zero) h = p1
bit-cases P p0 p1 (suc (suc n)) h = absurd (omega arith)

bits-swap : (x : ℕ) → x < 2 → (y : ℕ) → y < 2 → (z : ℕ) → z < 2 → differ (bit_xor x y) z ≡ differ (bit_xor x z) y
bits-swap =
    bit-cases _ (bit-cases _ (bit-cases _ refl refl) (bit-cases _ refl refl)) (bit-cases _ (bit-cases _ refl refl) (bit-cases _ refl refl))

-- the halves and the lowest bits of three
xor-step₃ : (a b c : ℕ)
    → bit_xor (bit_xor a b) c ≡ bit_xor (bit_xor (a / 2) (b / 2)) (c / 2) * 2 + differ (bit_xor (a % 2) (b % 2)) (c % 2)
xor-step₃ a b c = xor_step (bit_xor a b) c ∙ ap₂ (λ (x y : ℕ). bit_xor x (c / 2) * 2 + differ y (c % 2)) (xor_shr a b 1) (xor_mod a b 1)

pub xor-swap : (a b c : ℕ) → bit_xor (bit_xor a b) c ≡ bit_xor (bit_xor a c) b
xor-swap =
    bin_ind (λ (a : ℕ). (b c : ℕ) → bit_xor (bit_xor a b) c ≡ bit_xor (bit_xor a c) b) xor_comm
    (λ a ih b c.
    xor-step₃ a b c
    ∙ ap₂ (λ (x y : ℕ). x * 2 + y) (ih (b / 2) (c / 2)) (bits-swap (a % 2) (omega arith) (b % 2) (omega arith) (c % 2) (omega arith))
    ∙ sym (xor-step₃ a c b))

pub xor_assoc : (a b c : ℕ) → bit_xor (bit_xor a b) c ≡ bit_xor a (bit_xor b c)
xor_assoc a b c = ap (λ (x : ℕ). bit_xor x c) (xor_comm a b) ∙ xor-swap b a c ∙ xor_comm (bit_xor b c) a

pub xor-pairs : (a b c d : ℕ) → bit_xor (bit_xor a b) (bit_xor c d) ≡ bit_xor (bit_xor a c) (bit_xor b d)
xor-pairs a b c d = sym (xor_assoc (bit_xor a b) c d) ∙ ap (λ (x : ℕ). bit_xor x d) (xor-swap a b c) ∙ xor_assoc (bit_xor a c) b d

pub xor-shl : (k a b : ℕ) → bit_xor a b * 2 ^ k ≡ bit_xor (a * 2 ^ k) (b * 2 ^ k)
xor-shl k a b =
    sym (add-zero (bit_xor a b * 2 ^ k))
    ∙ sym (xor_block k a b 0 0 (pow_pos k) (pow_pos k))
    ∙ ap₂ bit_xor (add-zero (a * 2 ^ k)) (add-zero (b * 2 ^ k))

pub xor-double : (w a b : ℕ) → bit_xor a b * 2 % 2 ^ w ≡ bit_xor (a * 2 % 2 ^ w) (b * 2 % 2 ^ w)
xor-double w a b = ap (λ (x : ℕ). x % 2 ^ w) (xor-shl 1 a b) ∙ xor_mod (a * 2) (b * 2) w
