-- Places: the bytes from a place on, the descriptor that stands at a place, and that whatever is read leaves an end of the
-- bytes that it was given.
use Prim.Native.Nat.{ℕ, zero, suc, ◌+◌, ◌-◌, ◌≤◌, ◌<◌}
use native.Mathlib.{Omega.arith, Nat.add-zero, Nat.add_assoc}
use mathlib.Core.Path.{◌≡◌, refl, sym, ap, subst, ◌∙◌}
use mathlib.Core.{Bool.Bool, Bool.true, Bool.false, List.List, List.[], List.◌∷◌}
use lib.ListN.{length, take, length-drop, drop_of_length-le}
use lib.Seq.{get_or-drop, get_or-take, drop-drop, drop-length}
use lib.Dec.{leb}
use borrow.Author.Tests.{leb-true, leb-false}
use Rattle.rules.specs.Bytes.{Got, refused, got, unless, and_then, giving, byte, from}
use Rattle.rules.specs.Descriptors.{Descriptor, descriptor, passed, counted}
use Rattle.rules.specs.Layout.{Block, extent, taken, Layout, Numbered, entry, after, records}
use Rattle.rules.specs.{Form.Front, Form.Form, Section.Structure, Section.in_front, Section.structure}
use Rattle.rules.proofs.{Taken.unless-got, Truths.by-test}

pub from-from : (b : List ℕ) (n m : ℕ) → from (from b n) m ≡ from b (n + m)
unfolding from
from-from b n m = drop-drop m n b

pub from-length : (b : List ℕ) (at : ℕ) → length (from b at) ≡ length b - at
unfolding from
from-length b at = length-drop at b

pub same_place : (b : List ℕ) (i j : ℕ) → i ≤ length b → j ≤ length b → from b i ≡ from b j → i ≡ j
same_place b i j h k e = omega (arith, from-length b i, from-length b j, ap length e)

byte-from : (b : List ℕ) (at j : ℕ) → byte j (from b at) ≡ byte (at + j) b
unfolding byte from
byte-from b at j = rw get_or-drop

-- a byte of a part that is cut off behind it
pub byte-part : (b : List ℕ) (n at j : ℕ) → at + j < n → byte j (from (take n b) at) ≡ byte (at + j) b
unfolding byte
byte-part b n at j h = byte-from (take n b) at j ∙ get_or-take n b (at + j) 0 h

-- ---- the descriptor that stands at a place

abbrev pub desc_at : List ℕ → ℕ → Descriptor
desc_at b at = record { tag = byte at b; body = take (byte (at + 1) b) (from b (at + 2)) }

abbrev pub behind : List ℕ → ℕ → ℕ
behind b at = at + 2 + byte (at + 1) b

pub descriptor-at : (b : List ℕ) (at : ℕ) (d : Descriptor) (rest : List ℕ) → descriptor (from b at) ≡ got d rest
    → (d ≡ desc_at b at) × (rest ≡ from b (behind b at)) × (behind b at ≤ length b)
unfolding descriptor
descriptor-at b at d rest e =
    let two = unless-got _ _ _ _ _ e in let fits = unless-got _ _ _ _ _ two.1 in
    let one : byte 1 (from b at) ≡ byte (at + 1) b = byte-from b at 1 in
    let is : d ≡ record { tag = byte 0 (from b at); body = take (byte 1 (from b at)) (from (from b at) 2) } = cc in
    let left : rest ≡ from (from b at) (2 + byte 1 (from b at)) = cc in (
      is ∙ rw (byte-from b at 0, one, from-from b at 2, add-zero),
      left ∙ rw (one, from-from b at (2 + byte (at + 1) b), add_assoc),
      omega (arith, one, leb-true 2 (length (from b at)) two.0, leb-true (byte 1 (from b at)) (length (from b at) - 2) fits.0, from-length b at),
    )

-- ---- what is left is an end

abbrev Suffix : List ℕ → List ℕ → Type 0
Suffix rest bs = (n : ℕ) × (rest ≡ from bs n)

suffix_trans : (a b c : List ℕ) → Suffix a b → Suffix b c → Suffix a c
suffix_trans a b c p q = (q.0 + p.0, p.1 ∙ ap (λ (x : List ℕ). from x p.0) q.1 ∙ from-from c q.0 p.0)

-- the place of an end, by its length
suffix-place : (rest bs : List ℕ) → Suffix rest bs → from bs (length bs - length rest) ≡ rest
unfolding from
suffix-place rest bs (n, e) =
    by-test (leb n (length bs))
    (λ q. let k : length bs - length rest ≡ n = omega (arith, leb-true n (length bs) q, ap length e, length-drop n bs) in
    rw k (sym e))
    (λ q. let z : rest ≡ [] = e ∙ drop_of_length-le bs {i = n} (omega (arith, leb-false n (length bs) q)) in
    let k : length bs - length rest ≡ length bs = omega (arith, ap length z) in
    rw k (drop-length bs ∙ sym z))

abbrev Ends : {A : Type 0} → Got A → List ℕ → Type 0
Ends (refused n) bs = Unit
Ends (got a rest) bs = Suffix rest bs

module _ {A : Type 0} (bs : List ℕ) where
  ends-unless : (t : Bool) (n : ℕ) (g : Got A) → Ends g bs → Ends (unless t n g) bs
  unfolding unless
  ends-unless true n g h = h
  ends-unless false n g h = tt

  ends-from : (n : ℕ) (g : Got A) → Ends g (from bs n) → Ends g bs
  ends-from n (refused m) h = tt
  ends-from n (got a rest) h = suffix_trans rest (from bs n) bs h (n, refl)

  ends-then : {B : Type 0} (g : Got B) (f : B → List ℕ → Got A) → Ends g bs → ((x : B) (l : List ℕ) → Ends (f x l) l) → Ends (and_then g f) bs
  unfolding and_then
  ends-then (refused n) f h k = tt
  ends-then (got x l) f h k = go (f x l) (k x l)
    where
      go : (r : Got A) → Ends r l → Ends r bs
      go (refused n) q = tt
      go (got a rest) q = suffix_trans rest l bs q h

  ends-giving : {B : Type 0} (f : B → A) (g : Got B) → Ends g bs → Ends (giving f g) bs
  unfolding giving
  ends-giving f (refused n) h = tt
  ends-giving f (got x l) h = h

ends-descriptor : (bs : List ℕ) → Ends (descriptor bs) bs
unfolding descriptor
ends-descriptor bs = ends-unless bs _ 8 _ (ends-unless bs _ 8 _ (2 + byte 1 bs, refl))

ends-passed : (n : ℕ) (bs : List ℕ) → Ends (passed n bs) bs
unfolding passed from
ends-passed zero bs = (0, refl)
ends-passed (suc n) bs = ends-then bs (descriptor bs) (λ d rest. passed n rest) (ends-descriptor bs) (λ d rest. ends-passed n rest)

ends-counted : (d : Bool) (bs : List ℕ) → Ends (counted d bs) bs
unfolding counted from
ends-counted false bs = (0, refl)
ends-counted true bs = ends-unless bs _ 8 _ (ends-from bs 1 (passed (byte 0 bs) (from bs 1)) (ends-passed (byte 0 bs) (from bs 1)))

ends-taken : {R : Type 0} (b : Block R) (limits : R → Bool) (bs : List ℕ) → Ends (taken b limits bs) bs
unfolding taken
ends-taken b limits bs = ends-unless bs _ 8 _ (ends-unless bs _ 9 _ (ends-unless bs _ 10 _ (extent b bs, refl)))

ends-entry : {R : Type 0} (l : Layout R) (index : ℕ) (bs : List ℕ) → Ends (entry l index bs) bs
unfolding entry
ends-entry l index bs =
    ends-then bs (taken l.block (l.fair index) bs) (λ r rest. giving (λ x. record { index = index; what = r }) (counted l.described rest))
    (ends-taken l.block (l.fair index) bs)
    (λ r rest. ends-giving rest (λ x. record { index = index; what = r }) (counted l.described rest) (ends-counted l.described rest))

-- what a record leaves stands at a place of the bytes
pub entry_place : {R : Type 0} (l : Layout R) (index : ℕ) (b : List ℕ) (at : ℕ) (r : Numbered R) (rest : List ℕ) → entry l index (from b at) ≡ got r rest
    → (place : ℕ) × (rest ≡ from b place)
entry_place {R} l index b at r rest e =
    suffix_trans rest (from b at) b (subst (λ (g : Got (Numbered R)). Ends g (from b at)) e (ends-entry l index (from b at))) (at, refl)

ends-records : {R : Type 0} (l : Layout R) (n index : ℕ) (bs : List ℕ) → Ends (records l n index bs) bs
unfolding records from
ends-records l zero index bs = (0, refl)
ends-records l (suc n) index bs =
    ends-then bs (entry l index bs) (λ r rest. giving (λ rs. r ∷ rs) (records l n (after l r) rest)) (ends-entry l index bs)
    (λ r rest. ends-giving rest (λ rs. r ∷ rs) (records l n (after l r) rest) (ends-records l n (after l r) rest))

ends-structure : (f : Form) (x : Front) (bs : List ℕ) → Ends (structure f x bs) bs
unfolding structure in_front
ends-structure f x bs =
    ends-then bs (in_front f x bs) _ (ends-giving bs (f.joined x) (taken f.head (λ h. true) bs) (ends-taken f.head (λ h. true) bs))
    (λ y rest. ends-giving rest _ (records (f.layout y) y.count y.first rest) (ends-records (f.layout y) y.count y.first rest))

-- what a structure leaves, behind a header, stands at the place that its length says
pub structure-place : (f : Form) (x : Front) (bs : List ℕ) (at : ℕ) (y : Structure) (tail : List ℕ) → structure f x (from bs at) ≡ got y tail
    → from bs (length bs - length tail) ≡ tail
structure-place f x bs at y tail e =
    suffix-place tail bs (suffix_trans tail (from bs at) bs
    (subst (λ (g : Got Structure). Ends g (from bs at)) e (ends-structure f x (from bs at))) (at, refl))
