-- First index 0 is refused; the records stand right behind the header.
use Rattle.fields.proofs.Outlines.{counted-no, counted-so}
use Rattle.fields.proofs.counted_outline.Goals as goal

pub returns-then-first-eq0 : goal.returns-then-first-eq0
returns-then-first-eq0 c =
    let both = counted-no _ _ c.byte-first.ensures c.if-first-eq0.true in
    record { value = both.0; value_2 = both.1 }

pub returns : goal.returns
returns c =
    let both = counted-so _ _ _ c.byte-first.ensures c.byte-count.ensures c.if-first-eq0.false in
    record { value = both.0; value_2 = both.1 }
