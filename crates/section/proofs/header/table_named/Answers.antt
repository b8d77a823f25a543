-- Each row names a table, and no other row does.
use borrow.Author.Tests.{ne_eqb}
use Rattle.section.specs.Reads.{named_as}
use Rattle.section.proofs.Headers.{named-low, named-names, named-high, named_none}
use Rattle.section.proofs.header.table_named.Goals as goal

pub returns-in-194-eq1 : goal.returns-in-194-eq1
unfolding named_as
returns-in-194-eq1 c = rw (named-low _ _ c.in-194-eq1.is-0, c.in-194-eq1.is-1)

pub returns-in-194-eq2 : goal.returns-in-194-eq2
unfolding named_as
returns-in-194-eq2 c = rw (named-low _ _ c.in-194-eq2.is-0, c.in-194-eq2.is-1)

pub returns-in-195-eq6 : goal.returns-in-195-eq6
unfolding named_as
returns-in-195-eq6 c = rw (named-names _ _ c.in-195-eq6.is-0, c.in-195-eq6.is-1)

pub returns-in-196-eq0 : goal.returns-in-196-eq0
unfolding named_as
returns-in-196-eq0 c = rw (named-high _ _ c.in-196-eq0.is-0, c.in-196-eq0.is-1)

pub returns-in-196-eq1 : goal.returns-in-196-eq1
unfolding named_as
returns-in-196-eq1 c = rw (named-high _ _ c.in-196-eq1.is-0, c.in-196-eq1.is-1)

pub returns-in_default : goal.returns-in_default
unfolding named_as
returns-in_default c =
    let no = c.in_default.is-1 in rw (named-low _ _ c.in_default.is-0, ne_eqb _ _ no.0.1, ne_eqb _ _ no.1)

pub returns-in_default-2 : goal.returns-in_default-2
unfolding named_as
returns-in_default-2 c = rw (named-names _ _ c.in_default.is-0, ne_eqb _ _ c.in_default.is-1.1)

pub returns-in_default-3 : goal.returns-in_default-3
unfolding named_as
returns-in_default-3 c =
    let no = c.in_default.is-1 in rw (named-high _ _ c.in_default.is-0, ne_eqb _ _ no.0.1, ne_eqb _ _ no.1)

pub returns-in_default-4 : goal.returns-in_default-4
unfolding named_as
returns-in_default-4 c = let no = c.in_default.is-0 in rw (named_none _ _ no.0.0.1 no.0.1 no.1)
