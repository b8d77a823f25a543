-- Why a byte may join the register at once: zero bits into the register with v joined to it do what v's highest bits do to the
-- register alone, and the rest of v moves up. It is so for one bit, since turning bits over is the same before and after a join.
-- Besides, the register's own highest bit turns nothing over, so its own bits only move it up.
use mathlib.Core.Path.{◌≡◌, refl, ap, ◌∙◌}
use mathlib.Core.Bool.{Bool, true, false, cond}
use mathlib.Core.List.{List, [], ◌∷◌}
use Prim.Native.Nat.{ℕ, zero, suc, ◌*◌, ◌/◌, ◌%◌, ◌^◌, ◌<◌}
use native.Mathlib.Omega.{arith}
use lib.{Dec.eqb, Dec.lit<, ListN.replicate, Bits.bit_xor, Bits.xor_shr, Bits.xor_lt}
use borrow.Author.Tests.{eq-eqb}
use Rattle.rules.specs.Crc.{polynomial, shift, shift_all}
use Rattle.crc.proofs.Xor.{bit-cases, xor-swap, xor-double}

-- the n highest bits of v, highest first
unfoldable pub tops : ℕ → ℕ → List ℕ
tops zero v = []
tops (suc n) v = v / 2 ^ 31 ∷ tops n (v * 2 % 2 ^ 32)

-- v moved up by n bits
unfoldable pub up : ℕ → ℕ → ℕ
up zero v = v
up (suc n) v = up n (v * 2 % 2 ^ 32)

pub shift-lt : (r b : ℕ) → shift r b < 2 ^ 32
unfolding shift
shift-lt r b = either (eqb (r / 2 ^ 31) b)
  where
    low : r * 2 % 2 ^ 32 < 2 ^ 32
    low = omega arith

    either : (t : Bool) → cond t (r * 2 % 2 ^ 32) (bit_xor (r * 2 % 2 ^ 32) polynomial) < 2 ^ 32
    either true = low
    either false = xor_lt 32 (r * 2 % 2 ^ 32) polynomial low (lit< tt)

bits-differ : (x : ℕ) → x < 2 → (y : ℕ) → y < 2 → eqb (bit_xor x y) 0 ≡ eqb x y
bits-differ = bit-cases _ (bit-cases _ refl refl) (bit-cases _ refl refl)

-- one zero bit into r with v joined to it
joined-bit : (r v : ℕ) → r < 2 ^ 32 → v < 2 ^ 32 → shift (bit_xor r v) 0 ≡ bit_xor (shift r (v / 2 ^ 31)) (v * 2 % 2 ^ 32)
unfolding shift
joined-bit r v hr hv =
    rw (xor-double 32 r v, xor_shr r v 31, bits-differ (r / 2 ^ 31) (omega arith) (v / 2 ^ 31) (omega arith))
    (either (eqb (r / 2 ^ 31) (v / 2 ^ 31)) (r * 2 % 2 ^ 32) (v * 2 % 2 ^ 32))
  where
    either : (t : Bool) (a w : ℕ) → cond t (bit_xor a w) (bit_xor (bit_xor a w) polynomial) ≡ bit_xor (cond t a (bit_xor a polynomial)) w
    either true a w = refl
    either false a w = xor-swap a w polynomial

pub joined : (n r v : ℕ) → r < 2 ^ 32 → v < 2 ^ 32 → shift_all (bit_xor r v) (replicate n 0) ≡ bit_xor (shift_all r (tops n v)) (up n v)
unfolding shift_all tops up
joined zero r v hr hv = refl
joined (suc n) r v hr hv =
    ap (λ (x : ℕ). shift_all x (replicate n 0)) (joined-bit r v hr hv)
    ∙ joined n (shift r (v / 2 ^ 31)) (v * 2 % 2 ^ 32) (shift-lt r (v / 2 ^ 31)) (omega arith)

-- the bit that leaves r, into r
own-bit : (r : ℕ) → shift r (r / 2 ^ 31) ≡ r * 2 % 2 ^ 32
unfolding shift
own-bit r = rw (eq-eqb (r / 2 ^ 31) (r / 2 ^ 31) refl)

pub own : (n r : ℕ) → shift_all r (tops n r) ≡ up n r
unfolding shift_all tops up
own zero r = refl
own (suc n) r = ap (λ (x : ℕ). shift_all x (tops n (r * 2 % 2 ^ 32))) (own-bit r) ∙ own n (r * 2 % 2 ^ 32)
