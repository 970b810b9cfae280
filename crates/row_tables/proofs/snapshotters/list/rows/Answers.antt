use Rattle.row_tables.specs.Namespaces.{full_key, own_texts, joined}
use Rattle.row_tables.proofs.Listed.{listed_refs}
use Rattle.row_tables.proofs.NamespacesArrived.{key}
use Rattle.row_tables.proofs.snapshotters.list.rows.Goals as goal

pub returns-clause-ok : goal.returns-clause-ok
returns-clause-ok g c =
    listed_refs
    (key own_texts (full_key g.K.Named.texts_of g.R.NamedRow.name_of g.R.GroupedRow.group_of) g.R.SnapshotterRow.ns_of)
    (joined c.args.tables.now) c.in_ok-list.list.items c.sort_rows.new.list.items c.in_ok-list.ensures.ok c.requires c.sort_rows.ensures.same c.in_ok-sort_rows.ensures.order
