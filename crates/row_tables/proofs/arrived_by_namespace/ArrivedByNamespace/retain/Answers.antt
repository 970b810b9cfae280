use Rattle.row_tables.proofs.HousedListings.{kept_counted, kept_sorted}
use Rattle.row_tables.proofs.arrived_by_namespace.ArrivedByNamespace.retain.Goals as goal

-- as many stay as are marked
pub invariant_of-self : goal.invariant_of-self
invariant_of-self g c =
    kept_counted g.K.Named.texts_of g.R.NamedRow.name_of g.R.GroupedRow.group_of c.args.marks.now
    c.self.view_is c.retain_all.ensures.rows c.retain_all.ensures.groups c.self.invariant
    c.retain_all.ensures.full c.requires c.count_marks-self-inside.ensures

pub returns-clause-stays : goal.returns-clause-stays
returns-clause-stays g c =
    kept_sorted g.K.Named.texts_of g.R.NamedRow.name_of g.R.GroupedRow.group_of c.args.marks.now
    c.self.view_is c.retain_all.ensures.rows c.retain_all.ensures.groups c.self.invariant.are
