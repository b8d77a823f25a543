-- Marks in a listing: one number, and so many one after the other.
use Prim.Native.Nat.{ℕ, ◌+◌, ◌≤◌, ◌<◌}
use native.Mathlib.Omega.{arith}
use mathlib.Core.Path.{◌≡◌, refl, sym, ap, ◌∙◌}
use mathlib.Core.Bool.{Bool, true, false, cond, ◌&&◌, ◌||◌}
use mathlib.Core.List.{List}
use lib.ListN.{length, get_or, set, length-set}
use lib.{Seq.get_or-set_same, Seq.get_or-set_other, Dec.eqb, Dec.ltb}
use borrow.Author.Tests.{le-leb, lt-leb, lt-ltb, le-ltb, ltb-true, ltb-false, eq-eqb, ne_eqb, eqb-true, eqb-false}
use Rattle.rules.specs.Tuning.{covers}
use Rattle.search.specs.Listing.{Marked}

-- ---- the numbers covered

module _ (from n x : ℕ) where
  pub covers-yes : from ≤ x → x < from + n → covers from n x ≡ true
  unfolding covers
  covers-yes h k = simp (le-leb from x h, lt-ltb x (from + n) k)

  pub covers_low : x < from → covers from n x ≡ false
  unfolding covers
  covers_low h = simp (lt-leb from x h)

  pub covers_high : from ≤ x → from + n ≤ x → covers from n x ≡ false
  unfolding covers
  covers_high g h = simp (le-leb from x g, le-ltb x (from + n) h)

-- no number is none
pub covers-none : (x : ℕ) → covers 0 0 x ≡ false
covers-none x = covers_high 0 0 x (omega arith) (omega arith)

-- one number is itself alone
pub covers_one : (i x : ℕ) → covers i 1 x ≡ eqb i x
covers_one i x = go (ltb x i) refl (ltb i x) refl
  where
    go : (l : Bool) → ltb x i ≡ l → (g : Bool) → ltb i x ≡ g → covers i 1 x ≡ eqb i x
    go true l g q = let h = ltb-true x i l in covers_low i 1 x h ∙ sym (ne_eqb i x (λ e. omega arith))
    go false l true q = let h = ltb-true i x q in covers_high i 1 x (omega arith) (omega arith) ∙ sym (ne_eqb i x (λ e. omega arith))
    go false l false q =
        let h = ltb-false x i l in
        let k = ltb-false i x q in
        covers-yes i 1 x (omega arith) (omega arith) ∙ sym (eq-eqb i x (omega arith))

-- one number more
covers_more : (from i x : ℕ) → covers from (i + 1) x ≡ (covers from i x || covers (from + i) 1 x)
covers_more from i x = go (ltb x from) refl (ltb x (from + i)) refl (ltb x (from + i + 1)) refl
  where
    go : (a : Bool) → ltb x from ≡ a → (b : Bool) → ltb x (from + i) ≡ b → (c : Bool) → ltb x (from + i + 1) ≡ c
        → covers from (i + 1) x ≡ (covers from i x || covers (from + i) 1 x)
    go true p b q c r =
        let h = ltb-true x from p in
        rw (covers_low from (i + 1) x h, covers_low from i x h, covers_low (from + i) 1 x (omega arith))
    go false p true q c r =
        let h = ltb-false x from p in
        let k = ltb-true x (from + i) q in
        rw (covers-yes from (i + 1) x h (omega arith), covers-yes from i x h k)
    go false p false q true r =
        let h = ltb-false x from p in
        let k = ltb-false x (from + i) q in
        let m = ltb-true x (from + i + 1) r in
        rw (covers-yes from (i + 1) x h (omega arith), covers_high from i x h k, covers-yes (from + i) 1 x k m)
    go false p false q false r =
        let h = ltb-false x from p in
        let k = ltb-false x (from + i) q in
        let m = ltb-false x (from + i + 1) r in
        rw (covers_high from (i + 1) x h (omega arith), covers_high from i x h k, covers_high (from + i) 1 x k m)

-- ---- one mark, and then another

both-no : (q : Bool) (e v : ℕ) → cond (q && false) e v ≡ v
both-no true e v = refl
both-no false e v = refl

either_way : (t : Bool) (e : ℕ) → cond t e e ≡ e
either_way true e = refl
either_way false e = refl

twice : (p q : Bool) (v e b c : ℕ) → b ≡ cond (p && eqb v 0) e v → c ≡ cond (q && eqb b 0) e b → c ≡ cond ((p || q) && eqb v 0) e v
twice false q v e b c f g = g ∙ ap (λ (x : ℕ). cond (q && eqb x 0) e x) f
twice true q v e b c f g = go (eqb v 0) refl f
  where
    go : (z : Bool) → eqb v 0 ≡ z → b ≡ cond z e v → c ≡ cond z e v
    go true z h = g ∙ ap (λ (x : ℕ). cond (q && eqb x 0) e x) h ∙ either_way (q && eqb e 0) e
    go false z h = g ∙ ap (λ (x : ℕ). cond (q && eqb x 0) e x) h ∙ rw z (both-no q e v)

pub none-marked : (from entry : ℕ) (l : List ℕ) → Marked from 0 entry l l
none-marked from entry l = record { long = refl; is = λ x h. go x (ltb x from) refl }
  where
    go : (x : ℕ) (b : Bool) → ltb x from ≡ b → get_or l x 0 ≡ cond (covers from 0 x && eqb (get_or l x 0) 0) entry (get_or l x 0)
    go x true q = rw (covers_low from 0 x (ltb-true x from q))
    go x false q = rw (covers_high from 0 x (ltb-false x from q) (omega (arith, ltb-false x from q)))

pub more-marked : (from i entry : ℕ) (l m k : List ℕ) → Marked from i entry l m → Marked (from + i) 1 entry m k → Marked from (i + 1) entry l k
more-marked from i entry l m k a b =
    record {
      long = b.long ∙ a.long;
      is =
          λ x h. rw (covers_more from i x) (twice (covers from i x) (covers (from + i) 1 x) (get_or l x 0) entry (get_or m x 0) (get_or k x 0) (a.is x h)
          (b.is x (rw a.long h)));
    }

-- ---- one number

module _ (l : List ℕ) (i entry : ℕ) where
  pub skipped : (i < length l → get_or l i 0 ≡ 0 → ⊥) → Marked i 1 entry l l
  skipped not-Free = record { long = refl; is = λ x h. rw (covers_one i x) (go x h (eqb i x) refl (eqb (get_or l x 0) 0) refl) }
    where
      go : (x : ℕ) → x < length l → (b : Bool) → eqb i x ≡ b → (z : Bool) → eqb (get_or l x 0) 0 ≡ z → get_or l x 0 ≡ cond (b && z) entry (get_or l x 0)
      go x h true q true f =
          let e = eqb-true i x q in
          absurd (not-Free (omega arith) (ap (λ (y : ℕ). get_or l y 0) e ∙ eqb-true (get_or l x 0) 0 f))
      go x h true q false f = refl
      go x h false q z f = refl

  pub set-marked : i < length l → get_or l i 0 ≡ 0 → Marked i 1 entry l (set l i entry)
  set-marked h free = record { long = length-set l i entry; is = λ x k. rw (covers_one i x) (go x (eqb i x) refl) }
    where
      go : (x : ℕ) (b : Bool) → eqb i x ≡ b → get_or (set l i entry) x 0 ≡ cond (b && eqb (get_or l x 0) 0) entry (get_or l x 0)
      go x true q =
          let e = eqb-true i x q in
          let z = ap (λ (y : ℕ). get_or l y 0) (sym e) ∙ free in
          ap (λ (y : ℕ). get_or (set l i entry) y 0) (sym e) ∙ get_or-set_same l i entry 0 h ∙ rw (eq-eqb (get_or l x 0) 0 z)
      go x false q = get_or-set_other l i x entry 0 (λ e. eqb-false i x q (sym e))
