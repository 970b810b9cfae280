use Rattle.row_tables.specs.Namespaces.{full_key, own_texts}
use Rattle.std.proofs.Common.{List, ap, ◌∙◌}
use Rattle.std.specs.List.{list_all}
use Rattle.row_tables.specs.Arrived.{sorted}
use Rattle.row_tables.proofs.HousedListings.{all_tables}
use Rattle.row_tables.proofs.NamespacesArrived.{key, name}
use Rattle.row_tables.proofs.arrived_by_snapshotter.ArrivedBySnapshotter.all.Goals as goal

-- what the rows of each namespace pass, all rows pass
pub returns : goal.returns
returns g c =
    let passes = g.T.Test.passes c.args.test.now in
    c.all_pass.ensures
    ∙ ap
    (list_all (λ (rows : List g.row.R.Denot). list_all passes (sorted (name own_texts (full_key g.K.Named.texts_of g.R.NamedRow.name_of g.R.GroupedRow.group_of) g.R.SnapshotterRow.ns_of) rows)))
    (c.as_slice.ensures ∙ c.values.ensures.rest)
    ∙ all_tables own_texts
    (full_key g.K.Named.texts_of g.R.NamedRow.name_of g.R.GroupedRow.group_of)
    g.R.SnapshotterRow.ns_of passes c.self.inside.groups.entries
    ∙ ap (λ (rows : List g.row.R.Denot). list_all passes (sorted (key own_texts (full_key g.K.Named.texts_of g.R.NamedRow.name_of g.R.GroupedRow.group_of) g.R.SnapshotterRow.ns_of) rows)) c.self.view_is
