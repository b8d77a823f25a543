-- Bytes in hexadecimal, one behind the other.
use Prim.Native.Nat.{ℕ, ◌+◌, ◌*◌, ◌/◌, ◌%◌, ◌≤◌, ◌<◌}
use native.Mathlib.{Numerals.add-one, Omega.arith}
use mathlib.Core.Path.{◌≡◌, refl, ap, ◌∙◌}
use mathlib.Core.List.{List, [], ◌∷◌, ◌++◌}
use lib.ListN.{length, take, get_or}
use lib.Seq.{length-take-le, take-suc, take-length}
use borrow.Author.Tests.{lt-ltb, le-ltb}
use Rattle.rules.specs.LabelLines.{hex_digit, hexadecimal}
use Rattle.text.specs.Written.{Wrote, hex_pair}
use Rattle.text.proofs.{Written.then, Lines.nothing}

-- a digit, and a letter

pub low_digit : (d : ℕ) → d < 10 → 48 + d ≡ hex_digit d
unfolding hex_digit
low_digit d h = simp (lt-ltb d 10 h)

pub high_digit : (d : ℕ) → 10 ≤ d → 55 + d ≡ hex_digit d
unfolding hex_digit
high_digit d h = simp (le-ltb d 10 h)

-- two digits a byte
hex-length : (bs : List ℕ) → length (hexadecimal bs) ≡ length bs * 2
unfolding hexadecimal
hex-length [] = refl
hex-length (b ∷ bs) = omega (arith, hex-length bs)

hex-last : (bs : List ℕ) (b : ℕ) → hexadecimal (bs ++ (b ∷ [])) ≡ hexadecimal bs ++ hex_pair b
unfolding hexadecimal hex_pair
hex-last [] b = refl
hex-last (a ∷ bs) b = ap (λ (l : List ℕ). hex_digit (a / 16) ∷ hex_digit (a % 16) ∷ l) (hex-last bs b)

-- after i bytes
module _ {out : List ℕ} {at : ℕ} (bytes : List ℕ) where
  pub hexed-0 : at ≤ length out → Wrote out at (hexadecimal (take 0 bytes)) out at
  unfolding hexadecimal
  hexed-0 h = nothing out at h

  module _ {i : ℕ} {out' : List ℕ} {next : ℕ} (w : Wrote out at (hexadecimal (take i bytes)) out' next) where
    pub hexed-at : i ≤ length bytes → next ≡ at + i * 2
    hexed-at h = omega (arith, w.behind, hex-length (take i bytes), length-take-le i bytes h)

    pub hexed-more : {out'' : List ℕ} {r : ℕ} → i < length bytes → Wrote out' next (hex_pair (get_or bytes i 0)) out'' r
        → Wrote out at (hexadecimal (take (i + 1) bytes)) out'' r
    hexed-more h x =
        let e : hexadecimal (take (i + 1) bytes) ≡ hexadecimal (take i bytes) ++ hex_pair (get_or bytes i 0) =
        ap (λ (n : ℕ). hexadecimal (take n bytes)) (add-one i)
        ∙ ap hexadecimal (take-suc bytes i 0 h)
        ∙ hex-last (take i bytes) (get_or bytes i 0) in
        rw e (then w x)

    pub hexed-all : i ≡ length bytes → Wrote out at (hexadecimal bytes) out' next
    hexed-all e = rw (e, take-length bytes) at w
