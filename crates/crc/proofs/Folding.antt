-- The laws of folding: what stands for two numbers joined is what stands for each, joined; and eight bytes are their number joined to
-- the register, four zero bytes further on.
use mathlib.Core.Path.{◌≡◌, refl, sym, ap, ap₂, ◌∙◌}
use mathlib.Core.List.{List, [], ◌∷◌}
use Prim.Native.Nat.{ℕ, zero, suc, ◌+◌, ◌-◌, ◌*◌, ◌/◌, ◌%◌, ◌^◌, ◌≤◌, ◌<◌}
use native.Mathlib.{Numerals.add-one, Omega.arith}
use lib.{Dec.lit<, Seq.take_all, Seq.drop-cons, Seq.get_or-drop, Pow.split, Pow.high, Pow.low}
use lib.ListN.{length, take, drop, get_or, replicate, length-drop}
use lib.Bits.{bit_xor, xor_comm, xor_shr, xor_mod, xor_lt, xor_block, xor_shifted}
use Rattle.rules.specs.Crc.{polynomial, shift, bits_of, shift_all, crc_from}
use Rattle.crc.specs.Folding.{turn, zeros, residue, four, four_at, eight, Folded}
use Rattle.crc.proofs.{Xor.xor_assoc, Xor.xor-pairs, Laws.crc-append, Laws.crc-lt, Laws.crc-four}
use Rattle.crc.proofs.Turns.{turns, turns-lt, turns-joined}

-- ---- zero bytes and what the polynomial leaves, of two numbers joined

zero-byte : (n r : ℕ) → zeros (suc n) r ≡ zeros n (turns 31 polynomial 8 r)
unfolding crc_from bits_of shift_all shift turn turns
zero-byte n r = refl

pub zeros-lt : (n r : ℕ) → r < 2 ^ 32 → zeros n r < 2 ^ 32
zeros-lt n r h = crc-lt r (replicate n 0) h

pub zeros-joined : (n a b : ℕ) → a < 2 ^ 32 → b < 2 ^ 32 → zeros n (bit_xor a b) ≡ bit_xor (zeros n a) (zeros n b)
unfolding crc_from bits_of shift_all
zeros-joined zero a b ha hb = refl
zeros-joined (suc n) a b ha hb =
    let t = turns 31 polynomial 8 in let lt = turns-lt 31 polynomial (lit< tt) 8 in
    zero-byte n (bit_xor a b)
    ∙ ap (zeros n) (turns-joined 31 polynomial (lit< tt) 8 a b ha hb)
    ∙ zeros-joined n (t a) (t b) (lt a ha) (lt b hb)
    ∙ sym (rw (zero-byte n a, zero-byte n b))

pub residue-lt : (e : ℕ) → e < 2 ^ 64 → residue e < 2 ^ 32
unfolding residue
residue-lt e h = xor_lt 32 (zeros 4 (e / 2 ^ 32)) (e % 2 ^ 32) (zeros-lt 4 (e / 2 ^ 32) (omega arith)) (omega arith)

pub residue-joined : (a b : ℕ) → a < 2 ^ 64 → b < 2 ^ 64 → residue (bit_xor a b) ≡ bit_xor (residue a) (residue b)
unfolding residue
residue-joined a b ha hb =
    rw (xor_shr a b 32, xor_mod a b 32, zeros-joined 4 (a / 2 ^ 32) (b / 2 ^ 32) (omega arith) (omega arith))
    (xor-pairs (zeros 4 (a / 2 ^ 32)) (zeros 4 (b / 2 ^ 32)) (a % 2 ^ 32) (b % 2 ^ 32))

pub folded-joined : {a b x y : ℕ} → a < 2 ^ 64 → b < 2 ^ 64 → Folded a x → Folded b y → Folded (bit_xor a b) (bit_xor x y)
folded-joined {a} {b} {x} {y} ha hb f g =
    let hx = f.small in let hy = g.small in
    record {
      small = xor_lt 40 x y hx hy;
      same =
          residue-joined x y (omega arith) (omega arith)
          ∙ rw (f.same, g.same, residue-joined a b ha hb)
          (sym (zeros-joined 8 (residue a) (residue b) (residue-lt a ha) (residue-lt b hb)));
    }

-- a number k on top of n
pub folded-above : (j k : ℕ) {n x y : ℕ} → n < 2 ^ j → n < 2 ^ 64 → k * 2 ^ j < 2 ^ 64 → Folded n x → Folded (k * 2 ^ j) y
    → Folded (k * 2 ^ j + n) (bit_xor x y)
folded-above j k {n} h hn hk f g = rw (← xor_shifted k j n h, xor_comm (k * 2 ^ j) n) (folded-joined hn hk f g)

-- ---- halves of a number of 64 bits

pub residue-small : (e : ℕ) → e < 2 ^ 32 → residue e ≡ e
unfolding residue crc_from bits_of shift_all shift
residue-small e h =
    let u : e / 2 ^ 32 ≡ 0 = omega arith in let l : e % 2 ^ 32 ≡ e = omega arith in ap₂ (λ (x y : ℕ). bit_xor (zeros 4 x) y) u l

pub residue-halves : (e h l : ℕ) → l < 2 ^ 32
    → bit_xor (zeros 4 (bit_xor (e / 2 ^ 32) h)) (bit_xor (e % 2 ^ 32) l) ≡ residue (bit_xor e (h * 2 ^ 32 + l))
unfolding residue
residue-halves e h l hl = rw (xor_shr e (h * 2 ^ 32 + l) 32, xor_mod e (h * 2 ^ 32 + l) 32, high h 32 hl, low h 32 hl) refl

-- what was folded has no more than 40 bits, so of the upper half only the last byte is changed by it
eight-joined : (e a b c d l : ℕ) → e < 2 ^ 40 → d < 256 → l < 2 ^ 32
    → four a b c (bit_xor (e / 2 ^ 32) d) * 2 ^ 32 + bit_xor (e % 2 ^ 32) l ≡ bit_xor e (four a b c d * 2 ^ 32 + l)
eight-joined e a b c d l he hd hl =
    let u = e / 2 ^ 32 in let t = a * 2 ^ 16 + b * 2 ^ 8 + c in
    let z : u ≡ 0 * 2 ^ 8 + u = omega arith in
    let n : four a b c d ≡ t * 2 ^ 8 + d = omega arith in
    let p : bit_xor u (four a b c d) ≡ t * 2 ^ 8 + bit_xor u d = ap₂ bit_xor z n ∙ xor_block 8 0 t u d (omega arith) hd in
    let q : four a b c (bit_xor u d) ≡ bit_xor u (four a b c d) = omega arith in
    sym
    (ap (λ (x : ℕ). bit_xor x (four a b c d * 2 ^ 32 + l)) (sym (split e 32))
    ∙ xor_block 32 u (four a b c d) (e % 2 ^ 32) l (omega arith) hl
    ∙ ap (λ (x : ℕ). x * 2 ^ 32 + bit_xor (e % 2 ^ 32) l) (sym q))

pub folded-eight : (e a b c d l : ℕ) {x y : ℕ} → e < 2 ^ 40 → a < 256 → b < 256 → c < 256 → d < 256 → l < 2 ^ 32
    → Folded (bit_xor (e % 2 ^ 32) l) x → Folded (four a b c (bit_xor (e / 2 ^ 32) d) * 2 ^ 32) y
    → Folded (bit_xor e (four a b c d * 2 ^ 32 + l)) (bit_xor x y)
folded-eight e a b c d l he ha hb hc hd hl f g =
    let n : bit_xor (e % 2 ^ 32) l < 2 ^ 32 = xor_lt 32 (e % 2 ^ 32) l (omega arith) hl in
    let k : bit_xor (e / 2 ^ 32) d < 256 = xor_lt 8 (e / 2 ^ 32) d (omega arith) hd in
    rw (eight-joined e a b c d l he hd hl) at
    (folded-above 32 (four a b c (bit_xor (e / 2 ^ 32) d)) n (omega arith) (omega arith) f g)

-- ---- the bytes at a place

pub behind : (n : ℕ) (s : List ℕ) → take (length s - n) (drop n s) ≡ drop n s
behind n s = take_all (length s - n) (drop n s) (omega (arith, length-drop n s))

pub length-behind : (n : ℕ) {k : ℕ} (s : List ℕ) → n + k ≤ length s → k ≤ length (drop n s)
length-behind n s h = omega (arith, length-drop n s)

pub bytes-behind : (n : ℕ) (s : List ℕ) → ((j : ℕ) → get_or s j 0 < 256) → (j : ℕ) → get_or (drop n s) j 0 < 256
bytes-behind n s bytes j = rw (get_or-drop n s j 0) (bytes (n + j))

next : (s : List ℕ) (i j : ℕ) → i < length s → j ≡ i + 1 → drop i s ≡ get_or s i 0 ∷ drop j s
next s i j h e = rw (e, add-one, drop-cons s i 0)

-- the register after all bytes of s, joined by what was folded before them into e
abbrev pub after : List ℕ → ℕ → ℕ
after s e = crc_from (zeros 4 (residue (bit_xor e (eight s)))) (drop 8 s)

module _ (s : List ℕ) (bytes : (j : ℕ) → get_or s j 0 < 256) where
  four-lt : (i : ℕ) → four_at s i < 2 ^ 32
  unfolding four_at
  four-lt i = omega (arith, bytes i, bytes (i + 1), bytes (i + 2), bytes (i + 3))

  -- the next four bytes into the register r
  four-next : (r i : ℕ) → r < 2 ^ 32 → i + 4 ≤ length s → crc_from r (drop i s) ≡ crc_from (zeros 4 (bit_xor r (four_at s i))) (drop (i + 4) s)
  unfolding four_at
  four-next r i hr h =
      let a = get_or s i 0 in let b = get_or s (i + 1) 0 in let c = get_or s (i + 2) 0 in
      let d = get_or s (i + 3) 0 in
      ap (crc_from r)
      (next s i (i + 1) (omega arith) refl
      ∙ ap (λ (x : List ℕ). a ∷ x)
      (next s (i + 1) (i + 2) (omega arith) (omega arith)
      ∙ ap (λ (x : List ℕ). b ∷ x)
      (next s (i + 2) (i + 3) (omega arith) (omega arith)
      ∙ ap (λ (x : List ℕ). c ∷ x) (next s (i + 3) (i + 4) (omega arith) (omega arith)))))
      ∙ crc-append r (a ∷ b ∷ c ∷ d ∷ []) (drop (i + 4) s)
      ∙ ap (λ (x : ℕ). crc_from x (drop (i + 4) s)) (crc-four r a b c d hr (bytes i) (bytes (i + 1)) (bytes (i + 2)) (bytes (i + 3)))

  -- all of them, where e stands for r with four zero bytes behind it
  pub after-is : (r e : ℕ) → r < 2 ^ 32 → e < 2 ^ 64 → residue e ≡ zeros 4 r → 8 ≤ length s → after s e ≡ crc_from r s
  unfolding eight residue
  after-is r e hr he same h =
      let u = four_at s 0 in let l = four_at s 4 in let hu = four-lt 0 in let hl = four-lt 4 in
      let d : residue (u * 2 ^ 32 + l) ≡ bit_xor (zeros 4 u) l =
      ap₂ (λ (x y : ℕ). bit_xor (zeros 4 x) y) (high u 32 hl) (low u 32 hl) in
      sym
      (four-next r 0 hr (omega arith)
      ∙ four-next (zeros 4 (bit_xor r u)) 4 (zeros-lt 4 (bit_xor r u) (xor_lt 32 r u hr hu)) h
      ∙ ap (λ (x : ℕ). crc_from (zeros 4 x) (drop 8 s))
      (ap (λ (x : ℕ). bit_xor x l) (zeros-joined 4 r u hr hu)
      ∙ xor_assoc (zeros 4 r) (zeros 4 u) l
      ∙ ap₂ bit_xor (sym same) (sym d)
      ∙ sym (residue-joined e (u * 2 ^ 32 + l) he (omega arith))))

  pub after-starts : (r e : ℕ) → r < 2 ^ 32 → e ≡ zeros 4 r → 8 ≤ length s → after s e ≡ crc_from r s
  after-starts r e hr p h = let he : e < 2 ^ 32 = rw p (zeros-lt 4 r hr) in after-is r e hr (omega arith) (residue-small e he ∙ p) h

  eight-lt : eight s < 2 ^ 64
  unfolding eight
  eight-lt = omega (arith, four-lt 0, four-lt 4)

pub after-goes-on : (s : List ℕ) → ((j : ℕ) → get_or s j 0 < 256) → (e e' : ℕ) → e < 2 ^ 40 → Folded (bit_xor e (eight s)) e' → 16 ≤ length s
    → after (drop 8 s) e' ≡ after s e
after-goes-on s bytes e e' he f h =
    let w = bit_xor e (eight s) in let hw : w < 2 ^ 64 = xor_lt 64 e (eight s) (omega arith) (eight-lt s bytes) in
    let hr = residue-lt w hw in let hs = f.small in
    after-is (drop 8 s) (bytes-behind 8 s bytes) (zeros 4 (residue w)) e' (zeros-lt 4 (residue w) hr) (omega arith)
    (f.same ∙ crc-append (residue w) (replicate 4 0) (replicate 4 0)) (length-behind 8 s h)
