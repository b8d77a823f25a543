-- The laws of the CRC: it goes on over concatenation, its register has 32 bits, and a message with its CRC behind it leaves 0.
-- They are the laws of Linear.antt, eight bits at a time: a byte is the eight highest bits of a number that has it on top.
use mathlib.Core.Path.{◌≡◌, refl, sym, ap, ap₂, ◌∙◌}
use mathlib.Core.List.{List, [], ◌∷◌, ◌++◌}
use Prim.Native.Nat.{ℕ, ◌+◌, ◌*◌, ◌/◌, ◌%◌, ◌^◌, ◌<◌}
use native.Mathlib.Omega.{arith}
use lib.{Dec.lit<, ListN.replicate, Bits.bit_xor, Bits.xor_zero_r}
use Rattle.rules.specs.Crc.{start, shift, bits_of, shift_all, crc_from, crc_of}
use Rattle.crc.proofs.Linear.{tops, up, shift-lt, joined, own}

pub crc-nil : (r : ℕ) → crc_from r [] ≡ r
unfolding crc_from bits_of shift_all
crc-nil r = refl

pub crc-append : (r : ℕ) (a b : List ℕ) → crc_from r (a ++ b) ≡ crc_from (crc_from r a) b
unfolding crc_from bits_of shift_all
crc-append r [] b = refl
crc-append r (x ∷ a) b = crc-append (crc_from r (x ∷ [])) a b

pub crc-lt : (r : ℕ) (s : List ℕ) → r < 2 ^ 32 → crc_from r s < 2 ^ 32
unfolding crc_from shift_all
crc-lt r s h = all r (bits_of s) h
  where
    all : (r : ℕ) (bs : List ℕ) → r < 2 ^ 32 → shift_all r bs < 2 ^ 32
    all r [] h = h
    all r (b ∷ bs) h = all (shift r b) bs (shift-lt r b)

-- a number's highest byte is its eight highest bits
top_byte : (v b : ℕ) → v < 2 ^ 32 → v / 2 ^ 24 ≡ b → tops 8 v ≡ bits_of (b ∷ [])
unfolding tops bits_of
top_byte v b h e =
    ap₂ ◌∷◌ (omega arith)
    (ap₂ ◌∷◌ (omega arith)
    (ap₂ ◌∷◌ (omega arith)
    (ap₂ ◌∷◌ (omega arith)
    (ap₂ ◌∷◌ (omega arith)
    (ap₂ ◌∷◌ (omega arith)
    (ap₂ ◌∷◌ (omega arith)
    (ap₂ ◌∷◌ (omega arith) refl)))))))

up-byte : (v : ℕ) → v < 2 ^ 32 → up 8 v ≡ v % 2 ^ 24 * 2 ^ 8
unfolding up
up-byte v h = omega arith

-- b joined on top of the register, and eight zero bits
pub crc-byte : (r b : ℕ) → r < 2 ^ 32 → b < 256 → shift_all (bit_xor r (b * 2 ^ 24 % 2 ^ 32)) (replicate 8 0) ≡ crc_from r (b ∷ [])
unfolding up crc_from
crc-byte r b hr hb =
    let v = b * 2 ^ 24 % 2 ^ 32 in let t = top_byte v b (omega arith) (omega arith) in
    let m : up 8 v ≡ 0 = omega arith in
    joined 8 r v hr (omega arith) ∙ rw (m, xor_zero_r, t)

zero-byte : bits_of (0 ∷ []) ≡ replicate 8 0
unfolding bits_of
zero-byte = refl

-- a zero byte into the register with v joined to it: v's highest byte b comes in, and v moves up
joined-byte : (r v b v' : ℕ) (s : List ℕ) → r < 2 ^ 32 → v < 2 ^ 32 → v' < 2 ^ 32 → v * 2 ^ 8 ≡ b * 2 ^ 32 + v'
    → crc_from (bit_xor r v) (0 ∷ s) ≡ crc_from (bit_xor (crc_from r (b ∷ [])) v') s
unfolding crc_from
joined-byte r v b v' s hr hv hv' e =
    let t : v / 2 ^ 24 ≡ b = omega arith in
    let u : v % 2 ^ 24 * 2 ^ 8 ≡ v' = omega arith in
    crc-append (bit_xor r v) (0 ∷ []) s
    ∙ ap (λ (x : ℕ). crc_from x s)
    (ap (shift_all (bit_xor r v)) zero-byte ∙ joined 8 r v hr hv ∙ rw (up-byte v hv, u, top_byte v b hv t))

-- four bytes are their number joined to the register, and four zero bytes
pub crc-four : (r a b c d : ℕ) → r < 2 ^ 32 → a < 256 → b < 256 → c < 256 → d < 256
    → crc_from r (a ∷ b ∷ c ∷ d ∷ []) ≡ crc_from (bit_xor r (a * 2 ^ 24 + b * 2 ^ 16 + c * 2 ^ 8 + d)) (0 ∷ 0 ∷ 0 ∷ 0 ∷ [])
unfolding crc_from bits_of shift_all
crc-four r a b c d hr ha hb hc hd =
    let v = a * 2 ^ 24 + b * 2 ^ 16 + c * 2 ^ 8 + d in let v₁ = b * 2 ^ 24 + c * 2 ^ 16 + d * 2 ^ 8 in
    let v₂ = c * 2 ^ 24 + d * 2 ^ 16 in let v₃ = d * 2 ^ 24 in
    let r₁ = crc_from r (a ∷ []) in let r₂ = crc_from r₁ (b ∷ []) in let r₃ = crc_from r₂ (c ∷ []) in
    let h₁ = crc-lt r (a ∷ []) hr in let h₂ = crc-lt r₁ (b ∷ []) h₁ in let h₃ = crc-lt r₂ (c ∷ []) h₂ in
    sym
    (joined-byte r v a v₁ (0 ∷ 0 ∷ 0 ∷ []) hr (omega arith) (omega arith) (omega arith)
    ∙ joined-byte r₁ v₁ b v₂ (0 ∷ 0 ∷ []) h₁ (omega arith) (omega arith) (omega arith)
    ∙ joined-byte r₂ v₂ c v₃ (0 ∷ []) h₂ (omega arith) (omega arith) (omega arith)
    ∙ joined-byte r₃ v₃ d 0 [] h₃ (omega arith) (omega arith) (omega arith)
    ∙ xor_zero_r (crc_from r₃ (d ∷ [])))

-- the register's own highest byte moves it up
own-byte : (r b : ℕ) (s : List ℕ) → r < 2 ^ 32 → r / 2 ^ 24 ≡ b → {x : ℕ} → crc_from (r % 2 ^ 24 * 2 ^ 8) s ≡ x → crc_from r (b ∷ s) ≡ x
unfolding crc_from
own-byte r b s h e rest = rw (crc-append r (b ∷ []) s, ← top_byte r b h e, own, up-byte r h) rest

-- the register's own four bytes, highest first
unfoldable pub bytes_of : ℕ → List ℕ
bytes_of r = r / 2 ^ 24 ∷ r / 2 ^ 16 % 256 ∷ r / 2 ^ 8 % 256 ∷ r % 256 ∷ []

crc-closed : (r : ℕ) → r < 2 ^ 32 → crc_from r (bytes_of r) ≡ 0
unfolding bytes_of
crc-closed r h =
    own-byte _ _ _ h refl
    (own-byte _ _ _ (omega arith) (omega arith)
    (own-byte _ _ _ (omega arith) (omega arith)
    (own-byte _ _ _ (omega arith) (omega arith) (crc-nil _ ∙ omega arith))))

-- a message with its CRC behind it leaves 0
pub crc-sealed : (s : List ℕ) → crc_of (s ++ bytes_of (crc_of s)) ≡ 0
crc-sealed s = crc-append start s (bytes_of (crc_of s)) ∙ crc-closed (crc_of s) (crc-lt start s (lit< tt))
