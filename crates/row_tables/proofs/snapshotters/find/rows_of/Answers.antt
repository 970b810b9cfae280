use Rattle.std.proofs.Common.{◌≡◌, Bool, List, [], sym, ap, ◌∙◌, subst}
use Rattle.std.specs.Prelude.{IfSome, IfNone, filter, bytes_eq}
use Rattle.row_tables.specs.Namespaces.{full_key, own_texts, all_rows}
use Rattle.row_tables.proofs.NamespaceHomes.{at_given}
use Rattle.row_tables.proofs.SnapshotterRows.{filter_both}
use Rattle.row_tables.proofs.HousedListings.{rows_at, none_rows}
use Rattle.row_tables.proofs.snapshotters.find.rows_of.Goals as goal

-- the rows of the snapshotter are among those of the namespace
pub returns-in-Some-clause-rows : goal.returns-in-Some-clause-rows
returns-in-Some-clause-rows g c =
    let of_ns : g.row.R.Denot → Bool = λ row. bytes_eq c.args.ns.now (g.R.SnapshotterRow.ns_of row) in
    let of_snapshotter : g.row.R.Denot → Bool = λ row. bytes_eq c.args.snapshotter.now (g.R.GroupedRow.group_of row) in
    subst (λ (rows : List g.row.R.Denot). IfSome c.rows.result (λ lent. lent.now ≡ rows))
    (sym (filter_both of_ns of_snapshotter (all_rows c.args.groups.now.entries)
    ∙ ap (filter of_snapshotter) (rows_at own_texts (full_key g.K.Named.texts_of g.R.NamedRow.name_of g.R.GroupedRow.group_of) g.R.SnapshotterRow.ns_of c.args.ns.now c.args.groups.now.entries c.requires c.in-Some.home c.index.result.now (at_given c.args.groups.now.entries c.in-Some.home c.args.ns.now c.in-Some.ensures.found.0 c.index.result.now c.in-Some.ensures.found.1 c.index.ensures))))
    c.rows.ensures.rows

pub returns-in-Some-clause-none : goal.returns-in-Some-clause-none
returns-in-Some-clause-none g c =
    let of_ns : g.row.R.Denot → Bool = λ row. bytes_eq c.args.ns.now (g.R.SnapshotterRow.ns_of row) in
    let of_snapshotter : g.row.R.Denot → Bool = λ row. bytes_eq c.args.snapshotter.now (g.R.GroupedRow.group_of row) in
    subst (λ (rows : List g.row.R.Denot). IfNone c.rows.result (rows ≡ []))
    (sym (filter_both of_ns of_snapshotter (all_rows c.args.groups.now.entries)
    ∙ ap (filter of_snapshotter) (rows_at own_texts (full_key g.K.Named.texts_of g.R.NamedRow.name_of g.R.GroupedRow.group_of) g.R.SnapshotterRow.ns_of c.args.ns.now c.args.groups.now.entries c.requires c.in-Some.home c.index.result.now (at_given c.args.groups.now.entries c.in-Some.home c.args.ns.now c.in-Some.ensures.found.0 c.index.result.now c.in-Some.ensures.found.1 c.index.ensures))))
    c.rows.ensures.none

pub returns-in-None-clause-none : goal.returns-in-None-clause-none
returns-in-None-clause-none g c =
    let of_ns : g.row.R.Denot → Bool = λ row. bytes_eq c.args.ns.now (g.R.SnapshotterRow.ns_of row) in
    let of_snapshotter : g.row.R.Denot → Bool = λ row. bytes_eq c.args.snapshotter.now (g.R.GroupedRow.group_of row) in
    filter_both of_ns of_snapshotter (all_rows c.args.groups.now.entries)
    ∙ ap (filter of_snapshotter)
    (none_rows own_texts (full_key g.K.Named.texts_of g.R.NamedRow.name_of g.R.GroupedRow.group_of) g.R.SnapshotterRow.ns_of c.args.ns.now c.args.groups.now.entries c.requires c.in-None.ensures.none)
