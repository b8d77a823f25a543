-- The lines of the channels one by one, from 0 on; and where the checks of tuning are not passed there is none.
use Prim.Native.Nat.{ℕ, zero, suc, ◌+◌, ◌*◌, ◌≤◌, ◌<◌}
use native.Mathlib.{Nat.add-zero, Nat.zero-add, Nat.suc-mul, Nat.mul-le-mul_right, Numerals.add-one, Omega.arith}
use mathlib.Core.Path.{◌≡◌, refl, sym, ap, ◌∙◌}
use mathlib.Core.Bool.{Bool, true, false, cond}
use mathlib.Core.List.{List, [], ◌∷◌, ◌++◌, flatten, append-nil, append_assoc}
use lib.Dec.{ltb, eqb}
use lib.ListN.{length, get_or, replicate, length-append, length-replicate, get_or-replicate, get_or-eq_default}
use borrow.Author.Tests.{ltb-true, ltb-false, ne_eqb}
use Rattle.rules.specs.{Holding.Box, Tuning.tune, Label.labelled, Label.label_bytes, declared.State.State, declared.Tuned.Tuned}
use Rattle.rules.specs.Refusals.{OrRefused, wrong, right}
use Rattle.rules.specs.{Lineup.channel_line, Lineup.channel_lines, LabelLines.label_line, LabelLines.label_line_of}
use Rattle.search.specs.Listing.{Blank}
use Rattle.tuner.specs.Checks.{checks, checked_as}
use Rattle.tuner.proofs.Laws.{refused-high, refused-as}
use Rattle.text.specs.Written.{Wrote, Counts}
use Rattle.text.proofs.{Written.then, Written.counts, Lines.nothing}
use Rattle.printout.specs.{declared.Lines.Lines, Lines.box_of, Lines.line_of, Lines.longest, Lines.lines_in, Lines.Adds, Lines.Below}

-- ---- one channel more

-- the last channel's line is the last line
lines_snoc : (line : ℕ → List (List ℕ)) (n from : ℕ) → channel_lines line (suc n) from ≡ channel_lines line n from ++ line (from + n)
unfolding channel_lines
lines_snoc line zero from = rw add-zero (append-nil (line from))
lines_snoc line (suc n) from =
    let k : from + 1 + n ≡ from + suc n = omega arith in
    ap (λ (ls : List (List ℕ)). line from ++ ls) (lines_snoc line n (from + 1))
    ∙ sym (append_assoc (line from) (channel_lines line n (from + 1)) (line (from + 1 + n)))
    ∙ ap (λ (m : ℕ). line from ++ channel_lines line n (from + 1) ++ line m) k

flatten-append : (xs ys : List (List ℕ)) → flatten (xs ++ ys) ≡ flatten xs ++ flatten ys
unfolding flatten
flatten-append [] ys = refl
flatten-append (x ∷ xs) ys = ap (λ (l : List ℕ). x ++ l) (flatten-append xs ys) ∙ sym (append_assoc x (flatten xs) (flatten ys))

pub below-0 : (most : ℕ) (line : ℕ → List (List ℕ)) (out : List ℕ) → Below most line 0 out out (record { count = 0; size = 0 })
unfolding channel_lines flatten
below-0 most line out = record { wrote = nothing out 0 (omega arith); count = refl; short = omega arith; few = omega arith }

module _ {most : ℕ} {line : ℕ → List (List ℕ)} {number : ℕ} {out out' : List ℕ} {a : Lines} (b : Below most line number out out' a) where
  -- there is room for the next
  pub room-for-one : {all : ℕ} → number < 4096 → all ≡ 4096 * most → a.size + most ≤ all
  room-for-one h e = omega (arith, b.short, e, mul-le-mul_right most h, suc-mul number most)

  pub below_more : {out'' : List ℕ} {r : Lines} → Adds most (line number) out' a out'' r → Below most line (number + 1) out out'' r
  below_more {out''} {r} w =
      let all : channel_lines line (number + 1) 0 ≡ channel_lines line number 0 ++ line number =
      ap (λ (n : ℕ). channel_lines line n 0) (add-one number)
      ∙ lines_snoc line number 0
      ∙ ap (λ (n : ℕ). channel_lines line number 0 ++ line n) (zero-add number) in
      let size : (number + 1) * most ≡ number * most + most = ap (λ (n : ℕ). n * most) (add-one number) ∙ suc-mul number most in
      record {
        wrote = rw (all, flatten-append (channel_lines line number 0) (line number)) (then b.wrote w.wrote);
        count = w.count ∙ rw (all, length-append (channel_lines line number 0) (line number), b.count);
        short = omega (arith, b.short, w.short, size);
        few = omega (arith, b.few, w.count, w.one);
      }

-- ---- at most one line for each, of a label too

pub one_line : (number : ℕ) (t : OrRefused Tuned) → length (channel_line number t) ≤ 1
unfolding channel_line
one_line number (wrong n) = omega arith
one_line number (right (Tuned.Digital hidden path khz program mode)) = omega arith
one_line number (right (Tuned.Analogue hidden path khz standard scrambled)) = omega arith
one_line number (right (Tuned.Application hidden path application)) = omega arith

as_many : (n : ℕ) (l : List ℕ) → n ≤ 1 → length (cond (eqb n 0) [] (l ∷ [])) ≡ n
as_many zero l h = refl
as_many (suc zero) l h = refl
as_many (suc (suc n)) l h = absurd (omega arith)

module _ (b : Box) (number : ℕ) where
  tuned-line : List (List ℕ)
  tuned-line = channel_line number (tune b.state b.store number)

  lines-count : (labels : Bool) → length (line_of labels b number) ≡ length tuned-line
  unfolding line_of label_line_of tuned-line
  lines-count true = as_many (length tuned-line) _ (one_line number (tune b.state b.store number))
  lines-count false = refl

  no_line : (labels : Bool) → tuned-line ≡ [] → line_of labels b number ≡ []
  unfolding line_of label_line_of tuned-line
  no_line true e = rw e
  no_line false e = e

-- the line of a channel, written and counted
pub added : {out : List ℕ} {a : Lines} {out' : List ℕ} {size more : ℕ} {t : OrRefused Tuned} (labels : Bool) (b : Box) (number : ℕ)
    → t ≡ tune b.state b.store number → Wrote out a.size (flatten (line_of labels b number)) out' size → size ≤ a.size + longest labels
    → more ≡ length (channel_line number t) → Adds (longest labels) (line_of labels b number) out a out' (record { count = a.count + more; size = size })
unfolding tuned-line
added {a = a} {more = more} labels b number is w short e =
    let many = lines-count b number labels in
    let same : more ≡ length (line_of labels b number) = e ∙ ap (λ (u : OrRefused Tuned). length (channel_line number u)) is ∙ sym many in
    record {
      wrote = w;
      count = ap (λ (n : ℕ). a.count + n) same;
      short = short;
      one = omega (arith, many, one_line number (tune b.state b.store number));
    }

-- ---- the line of a label

module _ (b : Box) (number : ℕ) {t : OrRefused Tuned} {more : ℕ} (is : t ≡ tune b.state b.store number) (e : more ≡ length (channel_line number t))
  where
    many : more ≡ length (channel_line number (tune b.state b.store number))
    many = e ∙ ap (λ (u : OrRefused Tuned). length (channel_line number u)) is

    pub no_label : more ≡ 0 → {out : List ℕ} {at : ℕ} → at ≤ length out → Wrote out at (flatten (label_line_of b number)) out at
    unfolding label_line_of flatten
    no_label z {out} {at} h = rw (← many, z) (nothing out at h)

    pub some-label : (more ≡ 0 → ⊥) → {out : List ℕ} {at : ℕ} {label out' : List ℕ} {r : ℕ}
        → label ≡ label_bytes b.store [] (labelled b.state b.store number) → Wrote out at (label_line number label) out' r
        → Wrote out at (flatten (label_line_of b number)) out' r
    unfolding label_line_of flatten
    some-label ne {label = label} f w = rw (← many, ne_eqb more 0 ne, ← f, append-nil (label_line number label)) w

-- ---- the line of either text

module _ {out : List ℕ} {at : ℕ} {out' : List ℕ} {r : ℕ} (b : Box) (number : ℕ) where
  pub of_label : (r ≤ at + 546) × Wrote out at (flatten (label_line_of b number)) out' r
      → (r ≤ at + longest true) × Wrote out at (flatten (line_of true b number)) out' r
  unfolding line_of longest
  of_label w = w

  pub of-line-up : {t : OrRefused Tuned} → t ≡ tune b.state b.store number
      → (r ≤ at + 289) × Wrote out at (flatten (channel_line number t)) out' r
      → (r ≤ at + longest false) × Wrote out at (flatten (line_of false b number)) out' r
  unfolding line_of longest
  of-line-up is w = rw (← is) w

-- ---- where the checks are not passed

-- a channel that is refused has no line
refused-line : (number : ℕ) (t : OrRefused Tuned) (n : ℕ) → wrong n ≡ t → channel_line number t ≡ []
unfolding channel_line
refused-line number t n e = rw (← e)

no_lines : (line : ℕ → List (List ℕ)) (n from : ℕ) → ((number : ℕ) → line number ≡ []) → channel_lines line n from ≡ []
unfolding channel_lines
no_lines line zero from none = refl
no_lines line (suc n) from none = rw (none from) (no_lines line n (from + 1) none)

module _ (s : State) (store : List ℕ) (n : ℕ) (e : wrong n ≡ checked_as (checks s store)) where
  none-tuned : (number : ℕ) → channel_line number (tune s store number) ≡ []
  none-tuned number = go (ltb 14 n) refl (ltb 4095 number) refl
    where
      go : (late : Bool) → ltb 14 n ≡ late → (high : Bool) → ltb 4095 number ≡ high → channel_line number (tune s store number) ≡ []
      go true q true p = refused-line number _ 14 (refused-high s store number n e (omega (arith, ltb-true 14 n q)) (ltb-true 4095 number p))
      go false q high p = refused-line number _ n (refused-as s store number n e (λ f. ltb-false 14 n q))
      go true q false p = refused-line number _ n (refused-as s store number n e (λ f. absurd (omega (arith, f, ltb-false 4095 number p))))

  pub no-lines-in : (labels : Bool) → lines_in labels (box_of s store) ≡ []
  unfolding lines_in box_of tuned-line
  no-lines-in labels = no_lines (line_of labels (box_of s store)) 4096 0 (λ number. no_line (box_of s store) number labels (none-tuned number))

-- no refusal is the number 0
pub none-refused : (n : ℕ) {x : Unit} → right x ≡ checked_as n → n ≡ 0
none-refused zero e = refl
none-refused (suc n) e = let z : ◌≡◌ {A = ℕ} 0 1 = cc in absurd (omega arith)

-- ---- all of them

abbrev AllLines : (labels : Bool) → (b : Box) → (out out' : List ℕ) → (r : Lines) → Type 0
AllLines labels b out out' r =
    Wrote out 0 (flatten (lines_in labels b)) out' r.size × ((r.count ≡ length (lines_in labels b)) × Counts r.size out')

pub none_written : (labels : Bool) (b : Box) (out : List ℕ) → lines_in labels b ≡ [] → AllLines labels b out out (record { count = 0; size = 0 })
unfolding flatten
none_written labels b out e = (rw e (nothing out 0 (omega arith)), (rw e, (omega arith, refl)))

pub all-written : (labels : Bool) (b : Box) (out out' : List ℕ) (r : Lines) → Below (longest labels) (line_of labels b) 4096 out out' r
    → AllLines labels b out out' r
unfolding lines_in
all-written labels b out out' r w = (w.wrote, (w.count, counts w.wrote))

-- ---- listings

-- entries that are all 0 name nothing
pub blank : (n : ℕ) (l : List ℕ) → l ≡ replicate n 0 → Blank l
blank n l e = record { none = λ x. go x (ltb x n) refl }
  where
    go : (x : ℕ) (b : Bool) → ltb x n ≡ b → get_or l x 0 ≡ 0
    go x true q = ap (λ (k : List ℕ). get_or k x 0) e ∙ get_or-replicate n x 0 0 (ltb-true x n q)
    go x false q =
        let h : length l ≤ x = omega (arith, ap length e, length-replicate {A = ℕ} n 0, ltb-false x n q) in
        get_or-eq_default l 0 h
