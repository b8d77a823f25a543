-- Where the records stand behind the head, and what the header says of the language.
use Prim.Native.Nat.{ℕ, ◌-◌, ◌≤◌}
use native.Mathlib.Omega.{arith}
use mathlib.Core.{Path.◌≡◌, Path.refl, Bool.true, List.List}
use lib.ListN.{length, take}
use Rattle.rules.specs.{Bytes.byte, Bytes.from, Tables.ntt_head, Form.name_header, Section.header_of}
use Rattle.rules.specs.declared.Language.{Language}
use Rattle.rules.specs.declared.Table.TheVariants.{Ntt}
use Rattle.fields.specs.Outline.{header_says, outline_of}
use Rattle.rules.specs.Refusals.{right}
use Rattle.fields.proofs.{Laws.taken_here, Outlines.header-byte, Outlines.head-so}

pub behind-head : (b : List ℕ) (count : ℕ) → 1 ≤ length b - 8 → count ≡ byte 0 (take 1 (from b 8))
    → right (record { at = 9; map = 0; first = 0; count = count; included = 0 }) ≡ outline_of Ntt b
unfolding ntt_head
behind-head b count n e = rw e (head-so Ntt b refl (byte 0 (take 1 (from b 8))) _ (taken_here ntt_head (λ h. true) b 8 n refl refl))

pub language-is : (b : List ℕ) (l : Language) → l.first ≡ byte 4 b → l.second ≡ byte 5 b → l.third ≡ byte 6 b → l ≡ (header_says Ntt b).language
unfolding header_of name_header
language-is b l x y z =
    let first = header-byte 8 b 1 (omega arith) in
    let second = header-byte 8 b 2 (omega arith) in
    let third = header-byte 8 b 3 (omega arith) in
    rw (first, second, third, ← x, ← y, ← z) refl
