-- The two kinds of a table's line, and the line of a channel as the one that its list holds.
use Prim.Native.Nat.{ℕ, ◌≤◌}
use native.Mathlib.{Nat.add-zero, Omega.arith}
use mathlib.Core.Path.{◌≡◌, sym, ap, ◌∙◌}
use mathlib.Core.List.{List, [], ◌∷◌, ◌++◌, flatten, append-nil, append_assoc}
use lib.ListN.{length, take, drop, take-append-drop}
use borrow.Author.Tests.{eq-eqb, ne_eqb}
use Rattle.rules.specs.{Holding.put, declared.LiveVersion.LiveVersion, declared.Tuned.Tuned, declared.Refusal.Refusal}
use Rattle.std.specs.Prelude.{Result}
use Rattle.rules.specs.Refusals.{OrRefused, by_number}
use Rattle.rules.specs.Lineup.{text, decimal, version, channel_line}
use Rattle.text.specs.Written.{Wrote, line_of}

module _ {out : List ℕ} {at : ℕ} {out' : List ℕ} {r : ℕ} (key : List ℕ) (l : LiveVersion) where
  pub is_live : l.present ≡ 1 → Wrote out at (line_of key (decimal l.version)) out' r → Wrote out at (line_of key (version l)) out' r
  unfolding version
  is_live e w = simp (eq-eqb l.present 1 e) w

  pub is-not-live : (l.present ≡ 1 → ⊥) → Wrote out at (key ++ text "none\n") out' r → Wrote out at (line_of key (version l)) out' r
  unfolding version line_of text
  is-not-live ne w = simp (ne_eqb l.present 1 ne, append_assoc) w

-- no text, and the buffer as it was
pub nothing : (out : List ℕ) (at : ℕ) → at ≤ length out → Wrote out at [] out at
unfolding put
nothing out at h =
    let same = ap (λ (l : List ℕ). l ++ drop at out) (append-nil (take at out)) ∙ take-append-drop at out in
    record { room = omega arith; behind = omega arith; holds = rw add-zero (sym same) }

-- a channel's only line
pub line-of : {out : List ℕ} {at : ℕ} {line out' : List ℕ} {r most : ℕ} {t u : OrRefused Tuned} (number : ℕ) → t ≡ u → channel_line number u ≡ line ∷ []
    → (r ≤ most) × Wrote out at line out' r → (r ≤ most) × Wrote out at (flatten (channel_line number t)) out' r
unfolding flatten
line-of {line = line} number e l w = (w.0, rw (e, l, append-nil line) w.1)
