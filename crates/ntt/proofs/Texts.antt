-- A text is walked block by block: what is left of it is judged like a text that may be empty.
use Prim.Native.Nat.{ℕ, zero, suc, ◌+◌, ◌-◌, ◌≤◌, ◌<◌}
use native.Mathlib.Omega.{arith}
use mathlib.Core.Path.{◌≡◌, sym, ap, ◌∙◌}
use mathlib.Core.{Bool.Bool, Bool.true, Bool.false, Bool.◌&&◌, List.List}
use lib.{ListN.length, ListN.take, ListN.drop, ListN.length-drop, Seq.take_all, Dec.leb}
use borrow.Author.Tests.{le-leb, lt-leb, lt-ltb, le-ltb, eq-eqb, ne_eqb}
use Rattle.rules.specs.{Bytes.byte, Bytes.from, Text.block_size, Text.good_mode, Text.blocks, Text.good_text}
use Rattle.rules.proofs.Places.{from-from, from-length}

-- whether all of s is a text is whether from a place on blocks fill it, with a bound that is never met
pub record Comes (s : List ℕ) (at : ℕ) : Type 0 where
  pub inside : at ≤ length s
  pub bound : ℕ
  pub enough : length s - at ≤ bound
  pub is : good_text s ≡ blocks bound (from s at)

pub text-empty : (s : List ℕ) → length s ≡ 0 → false ≡ good_text s
unfolding good_text
text-empty s h = rw (le-ltb 0 (length s) (omega arith))

pub text-begin : (s : List ℕ) → (length s ≡ 0 → ⊥) → Comes s 0
unfolding good_text from
text-begin s h = record { inside = omega arith; bound = length s; enough = omega arith; is = rw (lt-ltb 0 (length s) (omega arith)) }

pub text-end : {s : List ℕ} {at : ℕ} → Comes s at → length s ≤ at → true ≡ good_text s
unfolding blocks
text-end {s} {at} c h = sym (c.is ∙ go c.bound)
  where
    none : length (from s at) ≡ 0
    none = omega (arith, from-length s at)

    go : (n : ℕ) → blocks n (from s at) ≡ true
    go zero = eq-eqb _ _ none
    go (suc n) = rw (eq-eqb _ _ none)

-- the bytes from a place on, as a part of a slice has them
pub tail-whole : (s : List ℕ) (at : ℕ) → take (length s - at) (drop at s) ≡ from s at
unfolding from
tail-whole s at = take_all (length s - at) (drop at s) (omega (arith, length-drop at s))

-- a block at a place: it is too long, or its mode isn't good, or the text goes on behind it
module _ {s : List ℕ} {at : ℕ} (c : Comes s at) (h : at < length s) {rest : List ℕ} (q : rest ≡ from s at) where
  left : length rest ≡ length s - at
  left = ap length q ∙ from-length s at

  -- so much of the bound is left for what is behind it, and what is asked of it
  abbrev Block : ℕ → Type 0
  Block n =
      (length s - at ≤ suc n)
      × (good_text s ≡ (leb (block_size rest) (length rest) && good_mode (byte 0 rest) (byte 1 rest) && blocks n (from rest (block_size rest))))

  block : (n : ℕ) × Block n
  unfolding blocks
  block = go c.bound c.enough (c.is ∙ ap (blocks c.bound) (sym q))
    where
      go : (b : ℕ) → length s - at ≤ b → good_text s ≡ blocks b rest → (n : ℕ) × Block n
      go zero e r = absurd (omega arith)
      go (suc n) e r = (n, (e, r ∙ rw (ne_eqb (length rest) 0 (λ z. omega (arith, left)))))

  pub text-short : {n : ℕ} → n ≡ block_size rest → length rest < n → false ≡ good_text s
  text-short e f = sym (block.1.1 ∙ rw (lt-leb _ _ (rw e at f)))

  module _ {n : ℕ} (e : n ≡ block_size rest) (f : n ≤ length rest) {good : Bool} (g : good ≡ good_mode (byte 0 rest) (byte 1 rest)) where
    pub text-mode : good ≡ false → false ≡ good_text s
    text-mode bad = sym (block.1.1 ∙ rw (le-leb _ _ (rw e at f), ← g, bad))

    pub text-on : 0 < n → good ≡ true → Comes s (at + n)
    text-on p fine =
        let b = block in
        let behind : from rest (block_size rest) ≡ from s (at + n) =
        ap (λ (r : List ℕ). from r (block_size rest)) q ∙ from-from s at (block_size rest) ∙ rw e
        in
        record {
          inside = omega (arith, left);
          bound = b.0;
          enough = omega (arith, b.1.0, left);
          is = b.1.1 ∙ rw (le-leb _ _ (rw e at f), ← g, fine) (ap (blocks b.0) behind);
        }
