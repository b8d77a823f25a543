-- One text written behind another is the two in a row, so each line is a chain of `then`; and a decimal number digit by digit.
use Prim.Native.Nat.{ℕ, zero, suc, ◌+◌, ◌/◌, ◌%◌, ◌^◌, ◌≤◌, ◌<◌}
use native.Mathlib.Nat.{mod-eq_of_lt, div-lt_iff_lt-mul, add_assoc, pow-suc}
use native.Mathlib.{Numerals.add-one, Omega.arith}
use mathlib.Core.Path.{◌≡◌, sym, ap, ◌∙◌, subst}
use mathlib.Core.Bool.{Bool, true, false, cond}
use mathlib.Core.List.{List, [], ◌∷◌, ◌++◌, append_assoc}
use lib.Dec.{ltb, lit<}
use lib.ListN.{length, take, drop, set, length-append}
use lib.Seq.{length-take-le, take_at, drop-append-add, drop-drop, set_split}
use borrow.Author.Tests.{lt-ltb, le-ltb}
use Rattle.rules.specs.{Holding.put, Lineup.digits, Lineup.decimal}
use Rattle.rules.proofs.Store.{put-length}
use Rattle.text.specs.Written.{Wrote, Counts}

-- ---- texts

-- what stands before the place and the text itself
front_length : (out : List ℕ) (at : ℕ) (t : List ℕ) → at + length t ≤ length out → length (take at out ++ t) ≡ at + length t
front_length out at t fits = length-append (take at out) t ∙ ap (λ (k : ℕ). k + length t) (length-take-le at out (omega arith))

put_then : (out : List ℕ) (at : ℕ) (t u : List ℕ) → at + length t + length u ≤ length out → put (put out at t) (at + length t) u ≡ put out at (t ++ u)
unfolding put
put_then out at t u fits =
    let p : List ℕ = take at out ++ t in
    let q : List ℕ = drop (at + length t) out in
    let size : length p ≡ at + length t = front_length out at t (omega arith) in
    let front : take (at + length t) (p ++ q) ≡ p = take_at p q (at + length t) size in
    let behind : drop (at + length t + length u) (p ++ q) ≡ drop (at + length (t ++ u)) out =
    ap (λ (k : ℕ). drop (k + length u) (p ++ q)) (sym size)
    ∙ drop-append-add p q (length u)
    ∙ drop-drop (length u) (at + length t) out
    ∙ ap (λ (k : ℕ). drop k out) (add_assoc at (length t) (length u) ∙ ap (λ (k : ℕ). at + k) (sym (length-append t u))) in
    ap (λ (l : List ℕ). (l ++ u) ++ drop (at + length t + length u) (p ++ q)) front
    ∙ ap (λ (l : List ℕ). (p ++ u) ++ l) behind
    ∙ ap (λ (l : List ℕ). l ++ drop (at + length (t ++ u)) out) (append_assoc (take at out) t u)

pub then : {out : List ℕ} {at : ℕ} {t out' : List ℕ} {p : ℕ} {u out'' : List ℕ} {r : ℕ}
    → Wrote out at t out' p → Wrote out' p u out'' r → Wrote out at (t ++ u) out'' r
then {out} {at} {t} {out'} {p} {u} {out''} {r} w x =
    let same : length out' ≡ length out = ap length w.holds ∙ put-length out at t w.room in
    let fits : at + length t + length u ≤ length out = omega (arith, w.behind, x.room) in
    record {
      room = omega (arith, length-append t u);
      behind =
          x.behind ∙ ap (λ (k : ℕ). k + length u) w.behind ∙ add_assoc at (length t) (length u) ∙ ap (λ (k : ℕ). at + k) (sym (length-append t u));
      holds =
          x.holds ∙ ap (λ (l : List ℕ). put l p u) w.holds ∙ ap (λ (k : ℕ). put (put out at t) k u) w.behind ∙ put_then out at t u fits;
    }

-- what was written, with a bound for the place behind it
pub short : {out : List ℕ} {at : ℕ} {t out' : List ℕ} {r n : ℕ} → Wrote out at t out' r → r ≤ n → (r ≤ n) × Wrote out at t out' r
short w h = (h, w)

-- what was written is within the buffer
pub counts : {out : List ℕ} {at : ℕ} {t out' : List ℕ} {r : ℕ} → Wrote out at t out' r → Counts r out'
counts {out} {at} {t} {out'} {r} w =
    let same : length out' ≡ length out = ap length w.holds ∙ put-length out at t w.room in
    let within : r ≤ length out' = omega (arith, w.room, w.behind) in
    (within, sym (length-take-le r out' within))

-- one byte
pub put_one : (out : List ℕ) (at b : ℕ) → at < length out → set out at b ≡ put out at (b ∷ [])
unfolding put
put_one out at b h =
    set_split out at b h
    ∙ sym (append_assoc (take at out) (b ∷ []) (drop (suc at) out))
    ∙ ap (λ (k : ℕ). (take at out ++ (b ∷ [])) ++ drop k out) (sym (add-one at))

-- ---- decimal numbers

-- every number of 64 bits has at most 20 digits
decimal-low : (n : ℕ) → n < 2 ^ 64 → decimal n ≡ digits 19 n
unfolding decimal
decimal-low n h = let none : 19 + n / 10 ^ 20 ≡ 19 = omega arith in rw none

pub decimal_digit : (n : ℕ) → n < 10 → decimal n ≡ (48 + n) ∷ []
unfolding digits
decimal_digit n h = decimal-low n (omega arith) ∙ simp (lt-ltb n 10 h)

-- more digits than are wanted change nothing
more : (most n : ℕ) → n < 10 ^ suc most → digits most n ≡ digits (suc most) n
unfolding digits
more zero n h = let small : n < 10 = h in simp (lt-ltb n 10 small, mod-eq_of_lt small)
more (suc most) n h =
    ap (λ (l : List ℕ). cond (ltb n 10) ((48 + n) ∷ []) (l ++ ((48 + n % 10) ∷ [])))
    (more most (n / 10) ((div-lt_iff_lt-mul {k = 10} {x = n} {y = 10 ^ suc most} (lit< tt)).1 (subst (λ (k : ℕ). n < k) (pow-suc 10 (suc most)) h)))

-- what stands before the last digit
pub decimal_step : (n : ℕ) → 10 ≤ n → n < 2 ^ 64 → decimal n ≡ decimal (n / 10) ++ ((48 + n % 10) ∷ [])
unfolding digits
decimal_step n h b =
    let low = (div-lt_iff_lt-mul {k = 10} {x = n} {y = 10 ^ 19} (lit< tt)).1 (omega arith) in
    rw (decimal-low n b, decimal-low (n / 10) (omega arith))
    (simp (le-ltb n 10 h) (ap (λ (l : List ℕ). l ++ ((48 + n % 10) ∷ [])) (more 18 (n / 10) low)))

pub decimal-step-length : (n : ℕ) → 10 ≤ n → n < 2 ^ 64 → length (decimal n) ≡ length (decimal (n / 10)) + 1
decimal-step-length n h b = ap length (decimal_step n h b) ∙ length-append (decimal (n / 10)) ((48 + n % 10) ∷ [])

digits-short : (most n : ℕ) → length (digits most n) ≤ suc most
unfolding digits
digits-short zero n = omega arith
digits-short (suc most) n = go (ltb n 10) (digits-short most (n / 10))
  where
    go : (b : Bool) → length (digits most (n / 10)) ≤ suc most
        → length (cond b ((48 + n) ∷ []) (digits most (n / 10) ++ ((48 + n % 10) ∷ []))) ≤ suc (suc most)
    go true ih = omega arith
    go false ih = omega (arith, length-append (digits most (n / 10)) ((48 + n % 10) ∷ []))

pub decimal-short : (n : ℕ) → n < 2 ^ 64 → length (decimal n) ≤ 20
decimal-short n h = rw (decimal-low n h) (digits-short 19 n)
