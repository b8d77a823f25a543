-- The name is what stands behind the first four bytes; the index is not looked at.
use native.Mathlib.Omega.{arith}
use mathlib.Core.Path.{ap, ◌∙◌}
use lib.{ListN.length, Seq.take_all}
use Rattle.rules.specs.{Bytes.from, Tables.name_of, Tables.name_fair, Text.good_text}
use Rattle.rules.proofs.Places.{from-length}
use Rattle.ntt.proofs.name_fair.Goals as goal

pub returns : goal.returns
unfolding name_of name_fair
returns c =
    let r = c.args.r.now in
    c.good_text.ensures ∙ ap good_text (c.part.ensures.result_value ∙ take_all (length r) (from r 4) (omega (arith, from-length r 4)))
