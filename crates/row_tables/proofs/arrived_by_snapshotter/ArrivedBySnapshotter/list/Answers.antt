use Rattle.row_tables.specs.Namespaces.{full_key, own_texts, joined}
use Rattle.std.proofs.Common.{List, sym, subst, ◌∙◌}
use Rattle.std.specs.List.{IsDistinct}
use Rattle.row_tables.specs.Arrived.{same_key}
use Rattle.row_tables.proofs.ApartNamespaces.{rows_distinct}
use Rattle.row_tables.proofs.NamespacesArrived.{key}
use Rattle.row_tables.proofs.arrived_by_snapshotter.ArrivedBySnapshotter.list.Goals as goal

-- no key stands twice
pub rows-requires : goal.rows-requires
rows-requires g c =
    subst
    (λ (l : List (List g.row.R.Denot)). IsDistinct (same_key (key own_texts (full_key g.K.Named.texts_of g.R.NamedRow.name_of g.R.GroupedRow.group_of) g.R.SnapshotterRow.ns_of)) (joined l))
    (sym (c.as_slice.ensures ∙ c.values.ensures.rest))
    (rows_distinct own_texts (full_key g.K.Named.texts_of g.R.NamedRow.name_of g.R.GroupedRow.group_of) g.R.SnapshotterRow.ns_of c.self.inside.groups.entries c.self.invariant.are)
