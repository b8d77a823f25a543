-- An input as its first two bytes and one piece; and two texts put one behind the other.
use Prim.Native.Nat.{ℕ, ◌+◌, ◌-◌, ◌≤◌, ◌<◌}
use native.Mathlib.Omega.{arith}
use mathlib.Core.Path.{◌≡◌, sym, ap, ◌∙◌}
use mathlib.Core.List.{List, [], ◌∷◌, ◌++◌, flatten, append-nil}
use lib.ListN.{length, take, drop, length-append}
use borrow.Author.Tests.{le-leb, lt-leb}
use Rattle.rules.specs.{Bytes.byte, Bytes.from, Holding.put}
use Rattle.rules.proofs.Store.{put-length}
use Rattle.stream.proofs.Laws.{rest-is}
use Rattle.text.specs.Written.{Wrote}
use Rattle.text.proofs.Written.{then}
use Rattle.runs.specs.Room.{size_in, put_in}

rest_of : (high low : ℕ) (rest : List ℕ) → flatten (from (high ∷ low ∷ rest) 2 ∷ []) ≡ rest
unfolding from flatten
rest_of high low rest = append-nil rest

pub two-first : (input : List ℕ) → 2 ≤ length input → byte 0 input ∷ byte 1 input ∷ flatten (take (length input - 2) (drop 2 input) ∷ []) ≡ input
unfolding byte
two-first [] h = absurd (omega arith)
two-first (x ∷ []) h = absurd (omega arith)
two-first (x ∷ y ∷ rest) h =
    ap (λ (l : List ℕ). x ∷ y ∷ l) (ap (λ (l : List ℕ). flatten (l ∷ [])) (rest-is (x ∷ y ∷ rest) 2) ∙ rest_of x y rest)

module _ (out a b : List ℕ) where
  size : length (a ++ b) ≡ length a + length b
  size = length-append a b

  pub no_room : length out < length a + length b → (0 ≡ size_in (a ++ b) (length out)) × (out ≡ put_in (a ++ b) out)
  unfolding size_in put_in
  no_room few = let less = lt-leb (length (a ++ b)) (length out) (omega (arith, size)) in (simp less, simp less)

  pub both-put : (out' out'' : List ℕ) → length a + length b ≤ length out → out' ≡ put out 0 a → out'' ≡ put out' (length a) b
      → (length a + length b ≡ size_in (a ++ b) (length out)) × (out'' ≡ put_in (a ++ b) out)
  unfolding size_in put_in
  both-put out' out'' fits e f =
      let w : Wrote out 0 a out' (length a) = record { room = omega arith; behind = omega arith; holds = e } in
      let same : length out' ≡ length out = ap length e ∙ put-length out 0 a (omega arith) in
      let v : Wrote out' (length a) b out'' (length a + length b) = record { room = omega (arith, same); behind = omega arith; holds = f } in
      let enough = le-leb (length (a ++ b)) (length out) (omega (arith, size)) in
      (simp enough (sym size), simp enough (then w v).holds)

-- two parts that are a text
pub as-text : (a b out : List ℕ) {text out' : List ℕ} {r : ℕ} → a ++ b ≡ text → (r ≡ size_in (a ++ b) (length out)) × (out' ≡ put_in (a ++ b) out)
    → (r ≡ size_in text (length out)) × (out' ≡ put_in text out)
as-text a b out e w = rw e at w
