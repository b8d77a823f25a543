-- Folding: a number of up to 64 bits stands for what the polynomial leaves of it, so bytes that were read can be put onto the
-- next eight bytes in one go, and the register itself is worked out once, at the end.
use Rattle.std.specs.Prelude.{ℕ, ◌+◌, ◌*◌, ◌/◌, ◌%◌, ◌^◌, ◌<◌, ◌≡◌, cond, List, get_or, replicate, eqb}
use Rattle.std.specs.Int.Bits.{bit_xor}
use Rattle.rules.specs.Crc.{crc_from}

-- n zero bytes into the register r
abbrev pub zeros : ℕ → ℕ → ℕ
zeros n r = crc_from r (replicate n 0)

-- what the polynomial leaves of x^(8 n): n zero bytes into the register that is 1
unfoldable pub power : ℕ → ℕ
power n = zeros n 1

-- what the polynomial leaves of a number of 64 bits: its upper half is a register that four zero bytes come into
unfoldable pub residue : ℕ → ℕ
residue e = bit_xor (zeros 4 (e / 2 ^ 32)) (e % 2 ^ 32)

-- four bytes as a number, the first one highest
abbrev pub four : ℕ → ℕ → ℕ → ℕ → ℕ
four a b c d = a * 2 ^ 24 + b * 2 ^ 16 + c * 2 ^ 8 + d

-- the four bytes at a place, and the first eight
unfoldable pub four_at : List ℕ → ℕ → ℕ
four_at s i = four (get_or s i 0) (get_or s (i + 1) 0) (get_or s (i + 2) 0) (get_or s (i + 3) 0)

unfoldable pub eight : List ℕ → ℕ
eight s = four_at s 0 * 2 ^ 32 + four_at s 4

-- a register r of 1 + w bits moves up by one, and where the bit that leaves is 1 the bits of q are turned over
unfoldable pub turn : ℕ → ℕ → ℕ → ℕ
turn w q r = cond (eqb (r / 2 ^ w) 0) (r * 2 % 2 ^ (1 + w)) (bit_xor (r * 2 % 2 ^ (1 + w)) q)

-- r stands for w with eight zero bytes behind it, and has no more than 40 bits
pub record Folded (w r : ℕ) : Type 0 where
  pub small : r < 2 ^ 40
  pub same : residue r ≡ zeros 8 (residue w)
