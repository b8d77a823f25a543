-- Where the records of a section stand, by the form of its table: what each table's room answers to the reader and to the searches. b is a
-- section without its CRC, whose header is whole with its zero bits 0.
use Rattle.std.specs.Prelude.{ℕ, ◌+◌, take}
use mathlib.Core.{Bool.cond, List.List}
use Rattle.rules.specs.Bytes.{Got, refused, got, unless, from}
use Rattle.rules.specs.{Layout.extent, Layout.Layout, Form.Front, Form.no_language, Form.form, Section.header_of, Section.in_front, declared.Table.Table}
use Rattle.rules.specs.Refusals.{OrRefused, wrong, right}
use Rattle.fields.specs.declared.Outline.{Outline}

-- bytes of the header: seven, and one more where a language stands in it (that it is so for every form: proofs/Outlines.antt)
abbrev pub header_size : Table → ℕ
header_size t = cond (form t).spoken 8 7

-- what the header says, and the bytes behind it
abbrev pub header_says : Table → List ℕ → Front
header_says t b = (header_of (form t)).look (take (extent (header_of (form t)) b) b)

abbrev pub behind_header : Table → List ℕ → List ℕ
behind_header t b = from b (extent (header_of (form t)) b)

-- the first record stands behind the header and the structure's head
unfoldable pub records_at : Table → List ℕ → ℕ
records_at t b = extent (header_of (form t)) b + extent (form t).head (behind_header t b)

-- of what stands in front of the records their layout goes by descriptors-included alone
abbrev pub layout_of : (t : Table) → (included : ℕ) → Layout (form t).Row
layout_of t included =
    (form t).layout (record { map = 0; language = no_language; first = 0; count = 0; included = included; splice = 0; time = 0 })

unfoldable pub outlined_as : Table → List ℕ → Got Front → OrRefused Outline
outlined_as t b (refused n) = wrong n
outlined_as t b (got y rest) =
    right
    (record { at = records_at t b; map = y.map; first = y.first; count = y.count; included = y.included })

-- the header's limits, else 10; then the head: 8, then 9
unfoldable pub fronted : Table → List ℕ → Got Front
fronted t b = unless ((form t).limits (header_says t b)) 10 (in_front (form t) (header_says t b) (behind_header t b))

unfoldable pub outline_of : Table → List ℕ → OrRefused Outline
outline_of t b = outlined_as t b (fronted t b)
