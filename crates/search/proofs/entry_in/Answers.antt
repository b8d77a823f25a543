-- What is found in a section is the answer; else the entry from the next section on is, and behind the last there is none.
use native.Mathlib.Omega.{arith}
use Rattle.search.proofs.Sections.{one_of, behind-all}
use Rattle.search.proofs.Entries.{set_out, found_in, none_in, none_left}
use Rattle.search.proofs.entry_in.Goals as goal

pub loop-i-init : goal.loop-i-init
loop-i-init g c = set_out _ _ _ _

pub returns-then-entry-ne0 : goal.returns-then-entry-ne0
returns-then-entry-ne0 g c =
    let h = rw c.TABLE.ensures at c.holding_of-h.ensures in
    found_in _ _ _ _ c.loop-i.invariant (one_of c.args.s g.R.Searched.TABLE _ h c.loop-i-test.true) c.entry_within-entry.ensures c.if-entry-ne0.true

pub loop-i-preserved : goal.loop-i-preserved
loop-i-preserved g c =
    let h = rw c.TABLE.ensures at c.holding_of-h.ensures in
    none_in _ _ _ _ c.loop-i.invariant (one_of c.args.s g.R.Searched.TABLE _ h c.loop-i-test.true) c.entry_within-entry.ensures c.if-entry-ne0.false

pub returns-else-entry-ne0 : goal.returns-else-entry-ne0
returns-else-entry-ne0 g c =
    let h = rw c.TABLE.ensures at c.holding_of-h.ensures in
    none_left _ _ _ _
    (none_in _ _ _ _ c.loop-i.invariant (one_of c.args.s g.R.Searched.TABLE _ h c.loop-i-test.true) c.entry_within-entry.ensures c.if-entry-ne0.false)
    (behind-all c.args.s g.R.Searched.TABLE _ h (omega arith))
