-- No such number, one that has its entry, or one that gets it.
use native.Mathlib.Omega.{arith}
use Rattle.search.proofs.Marks.{skipped, set-marked}
use Rattle.search.proofs.listing.mark_one.Goals as goal

pub returns-then-entries-number-eq0 : goal.returns-then-entries-number-eq0
returns-then-entries-number-eq0 c =
    set-marked _ _ _ (omega arith) c.if-entries-number-eq0.true

pub returns-else-number-entries : goal.returns-else-number-entries
returns-else-number-entries c =
    elim c.else-number-entries.branch [
      | goal.else-number-entries-via-then-number-entries+else-entries-number-eq0 w ↦ skipped _ _ _ (λ h e. w.if-entries-number-eq0.false e)
      | goal.else-number-entries-via-else-number-entries w ↦ skipped _ _ _ (λ h e. omega (arith, w.if-number-entries.false))
    ]
