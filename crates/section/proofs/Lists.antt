-- Laws of the closing list at a place: one turn of each of the two loops over it.
use Prim.Native.Nat.{ℕ, ◌+◌, ◌-◌, ◌≤◌, ◌<◌}
use native.Mathlib.Omega.{arith}
use mathlib.Core.Path.{◌≡◌, refl, sym, ap, ◌∙◌}
use mathlib.Core.Bool.{Bool, true, false, cond}
use mathlib.Core.List.{List, [], ◌∷◌, ◌++◌, append-nil}
use lib.ListN.{length, get_or, take, length-take}
use lib.Dec.{eqb}
use borrow.Author.Tests.{eq-eqb, ne_eqb}
use Rattle.rules.specs.Bytes.{Got, refused, got, and_then, giving, byte, from}
use Rattle.rules.specs.Descriptors.{Descriptor, descriptor, closing, bodies}
use Rattle.rules.specs.{Section.revision_tag, Section.revision, Section.part, Section.first_of, declared.Revision.Revision}
use Rattle.std.specs.Prelude.{Option, Result, Ok, Some, None}
use Rattle.rules.specs.declared.Part.{Part}
use Rattle.rules.specs.Refusals.{OrRefused, right}
use Rattle.rules.specs.declared.Refusal.{Refusal}
use Rattle.rules.proofs.Closing.{closing_end, closing-got, closing-no}
use Rattle.fields.specs.{Place.Stands}
use Rattle.section.specs.Closes.{closed_of, seen_of, seen_with, filled, first_in, Lone}
use Rattle.section.specs.declared.closing.Seen.{Seen}
use Rattle.section.specs.declared.closing.Seen.TheVariants.{Nothing, Once, Again}
use Rattle.rules.proofs.Places.{from-length, same_place, desc_at, behind, descriptor-at}
use Rattle.fields.proofs.Laws.{at_in, at-got, desc-whole}

-- a whole descriptor stands between two places
pub record Here (b : List ℕ) (at i : ℕ) : Type 0 where
  pub is : descriptor (from b at) ≡ got (desc_at b at) (from b i)
  pub next : i ≡ behind b at
  pub within : i ≤ length b

pub here : (b : List ℕ) (at : ℕ) (r : Result ℕ Refusal) → Stands b r (descriptor (from b at)) → (i : ℕ) → r ≡ Ok i → Here b at i
here b at r s i e =
    let g = at-got b r (descriptor (from b at)) s i e in
    let inside = at_in b r (descriptor (from b at)) s i e in
    let d = descriptor-at b at g.0 (from b i) g.1 in
    record { is = g.1 ∙ ap (λ (x : Descriptor). got x (from b i)) d.0; next = same_place b i (behind b at) inside d.2 d.1; within = inside }

-- ---- the revision: what is met so far, and then what the list from here on has

unfoldable pub closed_with : List ℕ → Seen → List ℕ → Got Revision
closed_with b seen bs = and_then (closing bs) (λ ds end. revision (seen_of b seen ++ bodies revision_tag ds))

pub close-begin : (b bs : List ℕ) → closed_of bs ≡ closed_with b Nothing bs
unfolding closed_of closed_with seen_of
close-begin b bs = refl

after-giving : {A B C : Type 0} (f : A → B) (g : Got A) (k : B → List ℕ → Got C) → and_then (giving f g) k ≡ and_then g (λ a rest. k (f a) rest)
unfolding and_then giving
after-giving f (refused n) k = refl
after-giving f (got a rest) k = refl

same_after : {A C : Type 0} (g : Got A) (j k : A → List ℕ → Got C) → ((a : A) (rest : List ℕ) → j a rest ≡ k a rest) → and_then g j ≡ and_then g k
unfolding and_then
same_after (refused n) j k e = refl
same_after (got a rest) j k e = e a rest

module _ (b : List ℕ) (at : ℕ) (seen : Seen) where
  pub close-end : length b ≤ at → closed_with b seen (from b at) ≡ revision (seen_of b seen)
  unfolding closed_with and_then bodies
  close-end h = rw (closing_end (from b at) (omega (arith, from-length b at)), append-nil)

  pub close-no : at < length b → (n : ℕ) → descriptor (from b at) ≡ refused n → closed_with b seen (from b at) ≡ refused n
  unfolding closed_with and_then
  close-no h n e = rw (closing-no (from b at) n (omega (arith, from-length b at)) e)

  module _ (i : ℕ) (h : Here b at i) where
    pub close-pass : (byte at b ≡ 0x93 → ⊥) → closed_with b seen (from b at) ≡ closed_with b seen (from b i)
    unfolding closed_with bodies
    close-pass n =
        rw (closing-got _ _ _ h.is) (after-giving (λ ds. desc_at b at ∷ ds) (closing (from b i)) _
        ∙ same_after (closing (from b i)) _ _ (λ ds end. rw (ne_eqb _ _ n)))

    pub close-seen : byte at b ≡ 0x93 → closed_with b seen (from b at) ≡ closed_with b (seen_with seen (at + 2) (byte (at + 1) b)) (from b i)
    unfolding closed_with bodies seen_with seen_of revision
    close-seen n =
        rw (closing-got _ _ _ h.is) (after-giving (λ ds. desc_at b at ∷ ds) (closing (from b i)) _
        ∙ same_after (closing (from b i)) _ _ (λ ds end. rw (eq-eqb _ _ n) (go seen ds)))
      where
        go : (x : Seen) (ds : List Descriptor)
            → revision (seen_of b x ++ ((desc_at b at).body ∷ bodies revision_tag ds))
            ≡ revision (seen_of b (seen_with x (at + 2) (byte (at + 1) b)) ++ bodies revision_tag ds)
        go Nothing ds = refl
        go (Once start size) ds = refl
        go Again ds = refl

-- a single revision descriptor up to the end: its body decides
pub close-lone : (b : List ℕ) (at : ℕ) → Lone b at → closed_of (from b at) ≡ revision (take (length b - (at + 2)) (from b (at + 2)) ∷ [])
unfolding seen_with seen_of byte
close-lone b at one =
    let size : length b - (at + 2) ≡ get_or b (at + 1) 0 = omega (arith, one.fills) in
    let there : Here b at (behind b at) =
    record { is = desc-whole b at (omega (arith, one.fills)) (omega (arith, one.fills)); next = refl; within = omega (arith, one.fills) } in
    close-begin b (from b at)
    ∙ close-seen b at Nothing (behind b at) there one.tag
    ∙ close-end b (behind b at) (Once (at + 2) (get_or b (at + 1) 0)) (omega (arith, one.fills))
    ∙ rw size

-- ---- the first descriptor of a tag, in a list that is whole

pub first-never : (b : List ℕ) (at : ℕ) → at < length b → (n : ℕ) → descriptor (from b at) ≡ refused n → filled (closing (from b at)) ≡ true → ⊥
unfolding filled
first-never b at h n e w =
    let f : false ≡ true = rw (closing-no (from b at) n (omega (arith, from-length b at)) e) at w in
    let z : ◌≡◌ {A = ℕ} 0 1 = cc in
    omega arith

listed-giving : {A B : Type 0} (f : A → B) (g : Got A) → filled (giving f g) ≡ filled g
unfolding filled giving
listed-giving f (refused n) = refl
listed-giving f (got a rest) = refl

pub listed-on : (b : List ℕ) (at i : ℕ) → Here b at i → filled (closing (from b at)) ≡ true → filled (closing (from b i)) ≡ true
listed-on b at i h w = sym (listed-giving (λ ds. desc_at b at ∷ ds) (closing (from b i))) ∙ ap filled (sym (closing-got _ _ _ h.is)) ∙ w

module _ (b : List ℕ) (at tag : ℕ) where
  pub first-end : length b ≤ at → first_in tag at (closing (from b at)) ≡ right None
  unfolding first_in first_of
  first-end h = rw (closing_end (from b at) (omega (arith, from-length b at)))

  first-giving : (g : Got (List Descriptor)) → filled g ≡ true
      → first_in tag at (giving (λ ds. desc_at b at ∷ ds) g)
      ≡ cond (eqb (byte at b) tag) (right (Some (part (at + 2) (length (desc_at b at).body)))) (first_in tag (at + 2 + length (desc_at b at).body) g)
  unfolding first_in first_of giving filled
  first-giving (refused n) e = let z : ◌≡◌ {A = ℕ} 0 1 = cc in absurd (omega arith)
  first-giving (got ds rest) e = go (eqb (byte at b) tag)
    where
      go : (t : Bool)
          → ◌≡◌ {A = OrRefused (Option Part)}
          (right (cond t (Some (part (at + 2) (length (desc_at b at).body))) (first_of tag (at + 2 + length (desc_at b at).body) ds)))
          (cond t (right (Some (part (at + 2) (length (desc_at b at).body)))) (right (first_of tag (at + 2 + length (desc_at b at).body) ds)))
      go true = refl
      go false = refl

  module _ (i : ℕ) (h : Here b at i) (w : filled (closing (from b at)) ≡ true) where
    body-size : length (desc_at b at).body ≡ byte (at + 1) b
    body-size = length-take (byte (at + 1) b) (from b (at + 2)) ∙ omega (arith, h.next, h.within, from-length b (at + 2))

    pub first-here : byte at b ≡ tag → first_in tag at (closing (from b at)) ≡ right (Some (part (at + 2) (byte (at + 1) b)))
    first-here e = rw (closing-got _ _ _ h.is, first-giving (closing (from b i)) (listed-on b at i h w), eq-eqb _ _ e, body-size)

    pub first-pass : (byte at b ≡ tag → ⊥) → first_in tag at (closing (from b at)) ≡ first_in tag i (closing (from b i))
    first-pass n = rw (closing-got _ _ _ h.is, first-giving (closing (from b i)) (listed-on b at i h w), ne_eqb _ _ n, body-size, ← h.next)
