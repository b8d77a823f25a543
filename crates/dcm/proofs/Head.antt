-- Where the records stand behind a head that is right.
use Prim.Native.Nat.{ℕ, ◌-◌, ◌≤◌}
use mathlib.Core.{Path.◌≡◌, Path.refl, Bool.true, List.List}
use lib.ListN.{length, take}
use Rattle.rules.specs.{Bytes.word, Bytes.from, Tables.dcm_head_zeros, Tables.dcm_head_of, Tables.dcm_head, Form.map_header, Section.header_of}
use Rattle.rules.specs.declared.DcmHead.{DcmHead}
use Rattle.rules.specs.declared.Table.TheVariants.{Dcm}
use Rattle.fields.specs.Outline.{outline_of}
use Rattle.rules.specs.Refusals.{right}
use Rattle.fields.proofs.{Laws.taken_here, Outlines.map_is, Outlines.head-so}

pub behind-head : (b : List ℕ) (map : ℕ) (h : DcmHead) → 3 ≤ length b - 7 → map ≡ word 5 b → dcm_head_zeros (take 3 (from b 7)) ≡ true
    → h ≡ dcm_head_of (take 3 (from b 7))
    → right (record { at = 10; map = map; first = h.first; count = h.count; included = 0 }) ≡ outline_of Dcm b
unfolding dcm_head header_of map_header
behind-head b map h n m z e =
    rw (map_is b map m, e) (head-so Dcm b refl (dcm_head_of (take 3 (from b 7))) _ (taken_here dcm_head (λ h. true) b 7 n z refl))
