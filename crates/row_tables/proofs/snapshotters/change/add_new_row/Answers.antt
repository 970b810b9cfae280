use Rattle.row_tables.specs.Namespaces.{full_key, own_texts}
use Rattle.std.specs.Prelude.{is_some}
use Rattle.std.proofs.Common.{false, sym, ap, subst}
use Rattle.meta_types.specs.Faults.{Refuses, least_of}
use Rattle.row_tables.proofs.HousedNamespaces.{none_at}
use Rattle.row_tables.proofs.NamespacesArrived.{name}
use Rattle.row_tables.proofs.snapshotters.change.add_new_row.Goals as goal

-- no row is in a namespace that isn't there
pub returns-in-None-clause-fault : goal.returns-in-None-clause-fault
returns-in-None-clause-fault g c =
    subst (λ there. Refuses c.open.result (least_of false false there false))
    (sym (ap is_some (none_at own_texts (full_key g.K.Named.texts_of g.R.NamedRow.name_of g.R.GroupedRow.group_of) g.R.SnapshotterRow.ns_of (g.R.SnapshotterRow.ns_of c.args.row) (name own_texts (full_key g.K.Named.texts_of g.R.NamedRow.name_of g.R.GroupedRow.group_of) g.R.SnapshotterRow.ns_of c.args.row) c.args.groups.now.entries (rw c.ns.ensures at c.in-None.ensures.none) c.requires)))
    c.open.ensures.fault
