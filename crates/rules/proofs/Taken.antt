-- Taking apart: where something was got, each test on the way was passed. Stated once, for every layout.
use Prim.Native.Nat.{ℕ, zero, suc, ◌+◌, ◌≤◌}
use native.Mathlib.Omega.{arith}
use mathlib.Core.Path.{◌≡◌, refl, sym, ap, ap₂, ◌∙◌}
use mathlib.Core.{Bool.Bool, Bool.true, Bool.false, List.List, List.◌∷◌, List.◌++◌, Option.Option, Option.none, Option.some}
use lib.ListN.{length, take, length-append}
use lib.Seq.{length-take-le, take-append-le, take-take, take_at, drop_at}
use borrow.Author.Tests.{le-leb, leb-true}
use Rattle.rules.specs.Bytes.{Got, refused, got, unless, and_then, giving, from}
use Rattle.rules.specs.{Descriptors.counted, Section.given, Parts.Own}
use Rattle.rules.specs.Layout.{Block, extent, taken, Layout, Numbered, numbered, entry, after, records}
pub use Rattle.rules.proofs.Truths.{differ, not_so, both_left, both_right, neither_left, neither_right}

pub unless-got : {A : Type 0} (t : Bool) (n : ℕ) (g : Got A) (a : A) (rest : List ℕ) → unless t n g ≡ got a rest → (t ≡ true) × (g ≡ got a rest)
unfolding unless
unless-got true n g a rest e = (refl, e)
unless-got false n g a rest e = let z : ◌≡◌ {A = ℕ} 0 1 = cc in absurd (omega arith)

pub record Then {A B : Type 0} (g : Got A) (f : A → List ℕ → Got B) (b : B) (rest : List ℕ) : Type 0 where
  pub value : A
  pub behind : List ℕ
  pub one : g ≡ got value behind
  pub more : f value behind ≡ got b rest

pub then-got : {A B : Type 0} (g : Got A) (f : A → List ℕ → Got B) (b : B) (rest : List ℕ) → and_then g f ≡ got b rest → Then g f b rest
unfolding and_then
then-got (refused n) f b rest e = let z : ◌≡◌ {A = ℕ} 0 1 = cc in absurd (omega arith)
then-got (got a l) f b rest e = record { value = a; behind = l; one = refl; more = e }

pub giving-got : {A B : Type 0} (f : A → B) (g : Got A) (b : B) (rest : List ℕ) → giving f g ≡ got b rest → (a : A) × (g ≡ got a rest) × (b ≡ f a)
unfolding giving
giving-got f (refused n) b rest e = let z : ◌≡◌ {A = ℕ} 0 1 = cc in absurd (omega arith)
giving-got f (got a l) b rest e = let r : l ≡ rest = cc in let k : b ≡ f a = cc in (a, rw r, k)

pub given-got : {A B : Type 0} (o : Option A) (n : ℕ) (f : A → Got B) (b : B) (rest : List ℕ) → given o n f ≡ got b rest
    → (a : A) × (f a ≡ got b rest) × (o ≡ some a)
unfolding given
given-got none n f b rest e = let z : ◌≡◌ {A = ℕ} 0 1 = cc in absurd (omega arith)
given-got (some a) n f b rest e = (a, e, refl)

-- a block's own bytes say how many they are, whatever stands behind them
module _ {R : Type 0} (b : Block R) (own rest : List ℕ) (n : Own b own) where
  pub own-extent : extent b (own ++ rest) ≡ extent b own
  own-extent = ap (λ (r : List ℕ). b.size + b.more r) (take-append-le b.size own rest (omega (arith, n)))

  pub own-taken : take (extent b (own ++ rest)) (own ++ rest) ≡ own
  own-taken = take_at own rest (extent b (own ++ rest)) (n ∙ sym own-extent)

  pub own-left : from (own ++ rest) (extent b (own ++ rest)) ≡ rest
  unfolding from
  own-left = drop_at own rest (extent b (own ++ rest)) (n ∙ sym own-extent)

  pub own-fits : extent b (own ++ rest) ≤ length (own ++ rest)
  own-fits = omega (arith, n, own-extent, length-append own rest)

-- and those of a block that is whole are such bytes
pub own-whole : {R : Type 0} (b : Block R) (bs : List ℕ) → extent b bs ≤ length bs → Own b (take (extent b bs) bs)
own-whole b bs h = length-take-le (extent b bs) bs h ∙ ap (λ (r : List ℕ). b.size + b.more r) (sym (take-take b.size (extent b bs) bs (omega arith)))

-- a block that was taken
pub record Taken {R : Type 0} (b : Block R) (limits : R → Bool) (bs : List ℕ) (r : R) (rest : List ℕ) : Type 0 where
  pub fits : extent b bs ≤ length bs
  pub zeros : b.zeros (take (extent b bs) bs) ≡ true
  pub fair : limits (b.look (take (extent b bs) bs)) ≡ true
  pub is : r ≡ b.look (take (extent b bs) bs)
  pub behind : rest ≡ from bs (extent b bs)

module _ {R : Type 0} (b : Block R) (limits : R → Bool) where
  pub taken-got : (bs : List ℕ) (r : R) (rest : List ℕ) → taken b limits bs ≡ got r rest → Taken b limits bs r rest
  unfolding taken
  taken-got bs r rest q =
      let x = unless-got _ _ _ _ _ q in let y = unless-got _ _ _ _ _ x.1 in
      let z = unless-got _ _ _ _ _ y.1 in let d = z.1 in
      record { fits = leb-true _ _ x.0; zeros = y.0; fair = z.0; is = cc; behind = cc }

  pub taken-so : (bs : List ℕ) → extent b bs ≤ length bs → b.zeros (take (extent b bs) bs) ≡ true → limits (b.look (take (extent b bs) bs)) ≡ true
      → taken b limits bs ≡ got (b.look (take (extent b bs) bs)) (from bs (extent b bs))
  unfolding taken unless
  taken-so bs h z f = rw (le-leb _ _ h, z, f)

  -- from its own bytes, whatever stands behind them: what they say, and what is left
  module _ (own : List ℕ) (n : Own b own) where
    pub own-got : (x : List ℕ) (r : R) (rest : List ℕ) → taken b limits (own ++ x) ≡ got r rest
        → (b.zeros own ≡ true) × (limits (b.look own) ≡ true) × (r ≡ b.look own) × (rest ≡ x)
    own-got x r rest e =
        let t = taken-got (own ++ x) r rest e in let o = own-taken b own x n in
        (ap b.zeros (sym o) ∙ t.zeros, ap (λ (y : List ℕ). limits (b.look y)) (sym o) ∙ t.fair, t.is ∙ ap b.look o, t.behind ∙ own-left b own x n)

    pub own-so : (x : List ℕ) → b.zeros own ≡ true → limits (b.look own) ≡ true → taken b limits (own ++ x) ≡ got (b.look own) x
    own-so x z f =
        let o = own-taken b own x n in
        taken-so (own ++ x) (own-fits b own x n) (ap b.zeros o ∙ z) (ap (λ (y : List ℕ). limits (b.look y)) o ∙ f)
        ∙ ap₂ got (ap b.look o) (own-left b own x n)

-- a record that was taken, with its descriptors behind it
pub record Entry {R : Type 0} (l : Layout R) (index : ℕ) (bs : List ℕ) (e : Numbered R) (rest : List ℕ) : Type 0 where
  pub fits : extent l.block bs ≤ length bs
  pub zeros : l.block.zeros (take (extent l.block bs) bs) ≡ true
  pub fair : l.fair index (l.block.look (take (extent l.block bs) bs)) ≡ true
  pub is : e ≡ numbered l index bs
  pub behind : counted l.described (from bs (extent l.block bs)) ≡ got tt rest

module _ {R : Type 0} (l : Layout R) where
  pub entry-got : (index : ℕ) (bs : List ℕ) (e : Numbered R) (rest : List ℕ) → entry l index bs ≡ got e rest → Entry l index bs e rest
  unfolding entry numbered
  entry-got index bs e rest q =
      let t = then-got _ _ _ _ q in
      let b = taken-got l.block (l.fair index) bs t.value t.behind t.one in
      let g = giving-got _ _ _ _ t.more in
      let is = g.2 ∙ ap (λ (r : R). record { index = index; what = r }) b.is in
      record { fits = b.fits; zeros = b.zeros; fair = b.fair; is = is; behind = ap (counted l.described) (sym b.behind) ∙ g.1 }

  -- as many records as were asked for
  pub records-count : (n index : ℕ) (bs : List ℕ) → giving length (records l n index bs) ≡ giving (λ rs. n) (records l n index bs)
  unfolding records giving and_then
  records-count zero index bs = refl
  records-count (suc n) index bs = go (entry l index bs) (records-count n)
    where
      one_more : (r : Numbered R) (g : Got (List (Numbered R))) → giving length g ≡ giving (λ rs. n) g
          → giving length (giving (λ rs. r ∷ rs) g) ≡ giving (λ rs. suc n) (giving (λ rs. r ∷ rs) g)
      one_more r (refused k) e = refl
      one_more r (got rs rest) e = let c : length rs ≡ n = cc in rw c

      go : (g : Got (Numbered R)) → ((i : ℕ) (l' : List ℕ) → giving length (records l n i l') ≡ giving (λ rs. n) (records l n i l'))
          → giving length (and_then g (λ r rest. giving (λ rs. r ∷ rs) (records l n (after l r) rest)))
          ≡ giving (λ rs. suc n) (and_then g (λ r rest. giving (λ rs. r ∷ rs) (records l n (after l r) rest)))
      go (refused k) f = refl
      go (got r rest) f = one_more r (records l n (after l r) rest) (f (after l r) rest)
