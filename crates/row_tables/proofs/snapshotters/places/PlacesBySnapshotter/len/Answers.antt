use Rattle.row_tables.specs.Namespaces.{full_key, own_texts}
use Rattle.std.proofs.Common.{subst}
use Rattle.std.specs.List.{IsDistinct}
use Rattle.row_tables.specs.Arrived.{same_key}
use Rattle.row_tables.proofs.NamespacesArrived.{key}
use Rattle.row_tables.proofs.ApartNamespaces.{rows_distinct}
use Rattle.row_tables.proofs.snapshotters.places.PlacesBySnapshotter.len.Goals as goal

-- no key stands twice
pub returns-clause-distinct : goal.returns-clause-distinct
returns-clause-distinct g c =
    subst (IsDistinct (same_key (key own_texts (full_key g.K.Named.texts_of g.R.NamedRow.name_of g.R.GroupedRow.group_of) g.R.SnapshotterRow.ns_of))) c.self.view_is
    (rows_distinct own_texts (full_key g.K.Named.texts_of g.R.NamedRow.name_of g.R.GroupedRow.group_of) g.R.SnapshotterRow.ns_of c.self.inside.groups.now.entries c.self.invariant.0.are)
