-- Reading a section, both ways: a section that reads right is the bytes of parts that read right, and says what they say; and the bytes of
-- such parts, with length, CRC and protocol version right, read right as just that.
use mathlib.Core.Path.{◌≡◌, sym, ap, ◌∙◌}
use mathlib.Core.{List.List, List.[]}
use Prim.Native.Nat.{ℕ, ◌-◌, ◌%◌, ◌<◌}
use native.Mathlib.Omega.{arith}
use lib.{ListN.length, Seq.get_or-take}
use borrow.Author.Tests.{eqb-true, eq-eqb}
use Rattle.rules.specs.{Bytes.got, Bytes.byte, Crc.crc_of, Form.form, Parts.Parts, Parts.bytes_of, Parts.Shaped}
use Rattle.rules.specs.InParts.{PartsRight, content_in, LengthRight, InParts}
use Rattle.rules.specs.Section.{is_number, Content, content, without_crc, right, read_section}
use Rattle.rules.proofs.Right.{number-own, fitting-says, fitting-so, whole-got, whole-so}
use Rattle.rules.proofs.Parted.{parts-right, right-parts, content-apart}

-- the bytes that the checks 4 and 6 look at stand before the CRC
pub first-bytes : (s : List ℕ) (j : ℕ) → LengthRight s → j < 4 → byte j (without_crc s) ≡ byte j s
unfolding without_crc byte
first-bytes s j fits h = get_or-take (length s - 4) s j 0 (omega (arith, fits.long, h))

pub read-in-parts : (s : List ℕ) (c : Content) → read_section s ≡ right c → InParts s c
read-in-parts s c e =
    let w = whole-got s c e in let a = content-apart (without_crc s) c w.rest w.is in
    let r = parts-right c a.0 w.rest a.1 (ap content (sym a.2) ∙ w.is) in
    let fits = fitting-says s w.three in
    let crc = eqb-true (crc_of s) 0 w.five in
    record { parts = a.0; right = r.0; says = r.1; bytes = a.2; fits = fits; crc = crc; protocol = eqb-true (byte 3 s % 32) 0 w.six }

pub parts-read : (s : List ℕ) (c : Content) → InParts s c → read_section s ≡ right c
unfolding bytes_of byte
parts-read s c k =
    let zero : byte 0 s ≡ (form c.table).number = sym (first-bytes s 0 k.fits (omega arith)) ∙ ap (byte 0) k.bytes ∙ k.right.number in
    whole-so s c (record {
      three = fitting-so s k.fits;
      four = ap is_number zero ∙ number-own c.table;
      five = eq-eqb (crc_of s) 0 k.crc;
      six = eq-eqb (byte 3 s % 32) 0 k.protocol;
      rest = [];
      is = ap content k.bytes ∙ right-parts c.table k.parts c.revision k.right ∙ ap (λ (d : Content). got d []) (sym k.says);
    })

-- whatever the parts are that make up a section that reads right
pub right-as : (s : List ℕ) (c : Content) → read_section s ≡ right c → (p : Parts) → Shaped (form c.table) p → without_crc s ≡ bytes_of (form c.table) p
    → PartsRight c.table p c.revision × (c ≡ content_in c.table p c.revision)
right-as s c e p shaped is = let w = whole-got s c e in parts-right c p w.rest shaped (ap content (sym is) ∙ w.is)
