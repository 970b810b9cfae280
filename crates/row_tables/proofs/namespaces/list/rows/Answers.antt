use Rattle.row_tables.proofs.Listed.{listed_refs}
use Rattle.row_tables.proofs.NamespacesArrived.{key}
use Rattle.row_tables.specs.Namespaces.{joined}
use Rattle.row_tables.proofs.namespaces.list.rows.Goals as goal

pub returns-clause-ok : goal.returns-clause-ok
returns-clause-ok g c =
    listed_refs (key g.K.Named.texts_of g.R.NamedRow.name_of g.R.GroupedRow.group_of)
    (joined c.args.tables.now) c.in_ok-list.list.items c.sort_rows.new.list.items c.in_ok-list.ensures.ok c.requires c.sort_rows.ensures.same c.in_ok-sort_rows.ensures.order
