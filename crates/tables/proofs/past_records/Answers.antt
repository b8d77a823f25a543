-- Each table's room goes over its own.
use borrow.Author.Rules.{rules}
use Prim.Native.Nat.{ℕ}
use mathlib.Core.{Path.◌≡◌, Path.sym, Path.subst, List.List}
use Rattle.rules.specs.{Bytes.from, Layout.records, declared.Table.Table}
use Rattle.rules.specs.declared.Table.TheVariants as table
use Rattle.std.specs.Prelude.{Result}
use Rattle.rules.specs.declared.Refusal.{Refusal}
use Rattle.fields.specs.{Place.Stands, Outline.layout_of}
use Rattle.tables.proofs.past_records.Goals as goal

module _ (b : List ℕ) (r : Result ℕ Refusal) (included count first at : ℕ) where
  abbrev Past : Table → Type 0
  Past t = Stands b r (records (layout_of t included) count first (from b at))

  as-table : {t : Table} (u : Table) → t ≡ u → Past u → Past t
  as-table u e s = subst (λ (x : Table). Past x) (sym e) s

pub returns-in-Cds : goal.returns-in-Cds
returns-in-Cds c = as-table _ _ _ _ _ _ table.Cds c.in-Cds.is (search rules)

pub returns-in-Mms : goal.returns-in-Mms
returns-in-Mms c = as-table _ _ _ _ _ _ table.Mms c.in-Mms.is (search rules)

pub returns-in-Vcm : goal.returns-in-Vcm
returns-in-Vcm c = as-table _ _ _ _ _ _ table.Vcm c.in-Vcm.is (search rules)

pub returns-in-Dcm : goal.returns-in-Dcm
returns-in-Dcm c = as-table _ _ _ _ _ _ table.Dcm c.in-Dcm.is (search rules)

pub returns-in-Ntt : goal.returns-in-Ntt
returns-in-Ntt c = as-table _ _ _ _ _ _ table.Ntt c.in-Ntt.is (search rules)
