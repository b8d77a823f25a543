-- What the reader's answers mean, stage by stage.
use mathlib.Core.{Bool.true, List.List, Option.Option, Option.none, Option.some}
use Rattle.std.specs.Prelude.{ℕ}
use lib.{ListN.length, Dec.ltb}
use Rattle.rules.specs.Bytes.{Got, refused, got, unless, giving, byte}
use Rattle.std.specs.Prelude.{Some, None}
use Rattle.std.specs.Prelude as std
use Rattle.rules.specs.{Layout.taken, Form.form, declared.Table.Table, declared.SectionHead.SectionHead, Refusals.OrRefused, Refusals.wrong, Refusals.right}
use Rattle.rules.specs.Section.{medium_at, named, given, header_of, Headed, Content, content_of, head_of}
use Rattle.fields.specs.Outline.{header_says, behind_header}

unfoldable pub named_as : Option Table → std.Option Table
named_as none = None
named_as (some t) = Some t

unfoldable pub table_of : Got Headed → OrRefused Table
table_of (refused n) = wrong n
table_of (got h rest) = right h.table

-- the header as the rule takes it, but for its limits, which the table's room judges
unfoldable pub headed_by : Table → List ℕ → Got Headed
headed_by t bs = giving (λ x. record { table = t; front = x }) (taken (header_of (form t)) (λ x. true) bs)

unfoldable pub headed : List ℕ → Got Headed
headed bs =
    unless (ltb (medium_at (byte 0 bs)) (length bs)) 8
    (given (named (byte 0 bs) (byte (medium_at (byte 0 bs)) bs)) 7 (λ t. headed_by t bs))

-- and what comes then: its limits, and the section behind it
unfoldable pub behind : Table → List ℕ → Got Content
behind t bs =
    unless ((form t).limits (header_says t bs)) 10
    (content_of (record { table = t; front = header_says t bs }) (behind_header t bs))

-- the reader's answer, of the section without its CRC
unfoldable pub answered_as : List ℕ → Got Content → OrRefused SectionHead
answered_as b (refused n) = wrong n
answered_as b (got c rest) = right (head_of b c)
