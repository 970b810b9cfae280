use Rattle.std.proofs.Common.{subst}
use Rattle.std.specs.List.{IsDistinct}
use Rattle.row_tables.specs.Arrived.{same_key}
use Rattle.row_tables.proofs.NamespacesArrived.{key}
use Rattle.row_tables.proofs.ApartNamespaces.{rows_distinct}
use Rattle.row_tables.proofs.namespaces.places.PlacesByNamespace.len.Goals as goal

-- no key stands twice
pub returns-clause-distinct : goal.returns-clause-distinct
returns-clause-distinct g c =
    subst (IsDistinct (same_key (key g.K.Named.texts_of g.R.NamedRow.name_of g.R.GroupedRow.group_of))) c.self.view_is
    (rows_distinct g.K.Named.texts_of g.R.NamedRow.name_of g.R.GroupedRow.group_of c.self.inside.groups.now.entries c.self.invariant.0.are)
