-- Bytes moved to the front of a buffer, and what the buffer holds then.
use Prim.Native.Nat.{ℕ, ◌+◌, ◌-◌, ◌≤◌, ◌<◌}
use native.Mathlib.{Nat.add_comm, Nat.zero-add, Numerals.add-one, Omega.arith}
use mathlib.Core.Path.{◌≡◌, refl, sym, ap, ◌∙◌}
use mathlib.Core.List.{List, [], ◌∷◌, ◌++◌}
use lib.ListN.{length, take, drop, get_or, set, length-set, length-drop, take-append-drop}
use lib.Seq.{length-take-le, take-suc, take-suc-set, drop-set-lt, drop-drop, get_or-drop, take_at, drop_at, take-add}
use Rattle.rules.specs.{Bytes.from, Holding.put}
use Rattle.rules.proofs.Places.{from-length}
use Rattle.rules.specs.Feeding.{Intake, unfinished, taking, feed}
use Rattle.stream.specs.{declared.Tally.Tally, Tallied.intake_of}

-- ---- one byte after the other

-- i bytes are moved, and those behind are as they were
pub record Moved (b₀ : List ℕ) (used i : ℕ) (b : List ℕ) : Type 0 where
  pub same : length b ≡ length b₀
  pub front : take i b ≡ take i (drop used b₀)
  pub behind : drop i b ≡ drop i b₀

pub move : (b : List ℕ) (used : ℕ) → Moved b used 0 b
move b used = record { same = refl; front = refl; behind = refl }

module _ {b₀ : List ℕ} {used i : ℕ} {b : List ℕ} (m : Moved b₀ used i b) where
  pub move-on : used + i < length b₀ → Moved b₀ used (i + 1) (set b i (get_or b (used + i) 0))
  move-on inside =
      let v = get_or b (used + i) 0 in
      let h : i < length b = omega (arith, m.same) in
      let k : i < length (drop used b₀) = omega (arith, length-drop used b₀) in
      let byte : v ≡ get_or (drop used b₀) i 0 =
      ap (λ (n : ℕ). get_or b n 0) (add_comm used i)
      ∙ sym (get_or-drop i b used 0)
      ∙ ap (λ (l : List ℕ). get_or l used 0) m.behind
      ∙ get_or-drop i b₀ used 0
      ∙ ap (λ (n : ℕ). get_or b₀ n 0) (add_comm i used)
      ∙ sym (get_or-drop used b₀ i 0) in
      record {
        same = length-set b i v ∙ m.same;
        front =
            ap (λ (n : ℕ). take n (set b i v)) (add-one i)
            ∙ take-suc-set b i v h
            ∙ ap (λ (l : List ℕ). l ++ (v ∷ [])) m.front
            ∙ ap (λ (x : ℕ). take i (drop used b₀) ++ (x ∷ [])) byte
            ∙ sym (take-suc (drop used b₀) i 0 k)
            ∙ ap (λ (n : ℕ). take n (drop used b₀)) (sym (add-one i));
        behind = drop-set-lt (i + 1) b i v (omega arith) ∙ sym (drop-drop 1 i b) ∙ ap (drop 1) m.behind ∙ drop-drop 1 i b₀;
      }

  pub moved : used + i ≤ length b₀ → b ≡ put b₀ 0 (take i (from b₀ used))
  unfolding put from
  moved inside =
      let size : length (take i (drop used b₀)) ≡ i = length-take-le i (drop used b₀) (omega (arith, length-drop used b₀)) in
      sym (take-append-drop i b)
      ∙ ap (λ (l : List ℕ). l ++ drop i b) m.front
      ∙ ap (λ (l : List ℕ). take i (drop used b₀) ++ l) m.behind
      ∙ ap (λ (n : ℕ). take i (drop used b₀) ++ drop n b₀) (sym (zero-add (length (take i (drop used b₀))) ∙ size))

-- ---- what is kept of a piece

-- the part behind a place of the first bytes
from-take : (b : List ℕ) (used have : ℕ) → used ≤ have → have ≤ length b → from (take have b) used ≡ take (have - used) (from b used)
unfolding from
from-take b used have h k =
    let n : used + (have - used) ≡ have = omega arith in
    ap (λ (m : ℕ). drop used (take m b)) (sym n)
    ∙ ap (drop used) (take-add used (have - used) b)
    ∙ drop_at (take used b) (take (have - used) (drop used b)) used (length-take-le used b (omega arith))

-- what was put at the front is at the front
front_of : (b t : List ℕ) (n : ℕ) → length t ≡ n → take n (put b 0 t) ≡ t
unfolding put
front_of b t n e = take_at t (drop (0 + length t) b) n e

-- it does not matter which of the bytes were kept and which are new
joined : (t : Tally) (store kept piece : List ℕ) → feed (intake_of t store []) (kept ++ piece) ≡ feed (intake_of t store kept) piece
unfolding feed intake_of taking
joined t store kept piece = refl

module _ (t r : Tally) (store store' b b' : List ℕ) (kept got used kept' : ℕ) (inside : kept + got ≤ length b)
    (fed : intake_of r store' (from (take (kept + got) b) used) ≡ feed (intake_of t store []) (take (kept + got) b)) (within : used ≤ kept + got)
    (n : kept' ≡ kept + got - used) (m : b' ≡ put b 0 (take (kept + got - used) (from b used))) where
  abbrev tail : List ℕ
  tail = take (kept + got - used) (from b used)

  tail-is : tail ≡ from (take (kept + got) b) used
  tail-is = sym (from-take b used (kept + got) within inside)

  size : length tail ≡ kept'
  size = length-take-le (kept + got - used) (from b used) (omega (arith, from-length b used)) ∙ sym n

  pub absorbed : intake_of r store' (take kept' b') ≡ feed (intake_of t store (take kept b)) (take got (from b kept))
  unfolding from
  absorbed =
      ap (intake_of r store') (ap (take kept') m ∙ front_of b tail kept' size ∙ tail-is)
      ∙ fed
      ∙ ap (feed (intake_of t store [])) (take-add kept got b)
      ∙ joined t store (take kept b) (take got (from b kept))

  pub rest-kept : b' ≡ put b 0 (unfinished (take (kept + got) b))
  unfolding feed intake_of taking
  rest-kept = m ∙ ap (put b 0) (tail-is ∙ ap (λ (i : Intake). i.kept) fed)

  pub rest-size : kept' ≡ length (unfinished (take (kept + got) b))
  unfolding feed intake_of taking
  rest-size = sym size ∙ ap length (tail-is ∙ ap (λ (i : Intake). i.kept) fed)
