-- Names that are live can be searched; where they aren't there is none.
use Rattle.label.proofs.Laws.{names_searchable, no_names}
use Rattle.label.proofs.first_name.Goals as goal

pub returns-then-s-ne1-clause-value : goal.returns-then-s-ne1-clause-value
returns-then-s-ne1-clause-value c = no_names _ _ c.if-s-ne1.true _ _

pub name_entry-requires : goal.name_entry-requires
name_entry-requires c = names_searchable _ _ c.requires c.if-s-ne1.false
