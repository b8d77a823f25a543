-- A single revision descriptor by its body, or any list.
use native.Mathlib.Omega.{arith}
use mathlib.Core.Path.{sym, ap, ◌∙◌}
use Rattle.rules.specs.Bytes.{from}
use Rattle.rules.specs.Section.{read}
use Rattle.section.proofs.Lists.{close-lone}
use Rattle.section.proofs.closing.close.Goals as goal

pub returns-then-is_lone_revision : goal.returns-then-is_lone_revision
unfolding from
returns-then-is_lone_revision c =
    let a = c.args in
    c.revised.ensures ∙ ap read (sym (close-lone a.b.now a.start
    (c.is_lone_revision.ensures c.if-is_lone_revision.true)))

pub overflow_add-start : goal.overflow_add-start
overflow_add-start c = omega (arith, (c.is_lone_revision.ensures c.if-is_lone_revision.true).fills)

pub slice_bounds-revised-count : goal.slice_bounds-revised-count
slice_bounds-revised-count c = omega (arith, (c.is_lone_revision.ensures c.if-is_lone_revision.true).fills)

pub slice_bounds-revised-start : goal.slice_bounds-revised-start
slice_bounds-revised-start c = omega (arith, (c.is_lone_revision.ensures c.if-is_lone_revision.true).fills)

pub returns : goal.returns
returns c = c.close_list.ensures
