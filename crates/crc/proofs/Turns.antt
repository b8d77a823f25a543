-- A register that moves up bit by bit, of any width and under any polynomial: what comes of two of them joined is what comes of
-- each, joined. The register of the CRC with a zero bit coming in is one of these, and so is a product with a constant.
use mathlib.Core.Path.{◌≡◌, refl, sym, ap, ◌∙◌}
use mathlib.Core.Bool.{Bool, true, false, cond}
use Prim.Native.Nat.{ℕ, zero, suc, ◌+◌, ◌*◌, ◌/◌, ◌%◌, ◌^◌, ◌<◌}
use native.Mathlib.Nat.{mod-lt}
use lib.{Dec.eqb, Pow.pow_pos, Pow.shr_lt}
use lib.Bits.{bit_xor, xor_shr, xor_lt, xor_zero_r, xor_self}
use Rattle.crc.specs.Folding.{turn}
use Rattle.crc.proofs.Xor.{bit-cases, xor-swap, xor_assoc, xor-pairs, xor-double}

unfoldable pub turns : ℕ → ℕ → ℕ → ℕ → ℕ
turns w q zero r = r
turns w q (suc n) r = turns w q n (turn w q r)

both-turned : (q x y s : ℕ) → s < 2 → (t : ℕ) → t < 2
    → cond (eqb (bit_xor s t) 0) (bit_xor x y) (bit_xor (bit_xor x y) q)
    ≡ bit_xor (cond (eqb s 0) x (bit_xor x q)) (cond (eqb t 0) y (bit_xor y q))
both-turned q x y =
    bit-cases _
    (bit-cases _ refl (xor_assoc x y q))
    (bit-cases _ (xor-swap x y q) (sym (xor-pairs x q y q ∙ ap (bit_xor (bit_xor x y)) (xor_self q) ∙ xor_zero_r (bit_xor x y))))

module _ (w q : ℕ) (hq : q < 2 ^ (1 + w)) where
  pub turn-lt : (r : ℕ) → turn w q r < 2 ^ (1 + w)
  unfolding turn
  turn-lt r = either (eqb (r / 2 ^ w) 0)
    where
      low : r * 2 % 2 ^ (1 + w) < 2 ^ (1 + w)
      low = mod-lt (r * 2) (pow_pos (1 + w))

      either : (t : Bool) → cond t (r * 2 % 2 ^ (1 + w)) (bit_xor (r * 2 % 2 ^ (1 + w)) q) < 2 ^ (1 + w)
      either true = low
      either false = xor_lt (1 + w) (r * 2 % 2 ^ (1 + w)) q low hq

  turn-joined : (a b : ℕ) → a < 2 ^ (1 + w) → b < 2 ^ (1 + w) → turn w q (bit_xor a b) ≡ bit_xor (turn w q a) (turn w q b)
  unfolding turn
  turn-joined a b ha hb =
      rw (xor-double (1 + w) a b, xor_shr a b w)
      (both-turned q (a * 2 % 2 ^ (1 + w)) (b * 2 % 2 ^ (1 + w)) (a / 2 ^ w) (shr_lt 1 w ha) (b / 2 ^ w) (shr_lt 1 w hb))

  pub turns-lt : (n r : ℕ) → r < 2 ^ (1 + w) → turns w q n r < 2 ^ (1 + w)
  unfolding turns
  turns-lt zero r h = h
  turns-lt (suc n) r h = turns-lt n (turn w q r) (turn-lt r)

  pub turns-joined : (n a b : ℕ) → a < 2 ^ (1 + w) → b < 2 ^ (1 + w) → turns w q n (bit_xor a b) ≡ bit_xor (turns w q n a) (turns w q n b)
  unfolding turns
  turns-joined zero a b ha hb = refl
  turns-joined (suc n) a b ha hb =
      ap (turns w q n) (turn-joined a b ha hb) ∙ turns-joined n (turn w q a) (turn w q b) (turn-lt a) (turn-lt b)
