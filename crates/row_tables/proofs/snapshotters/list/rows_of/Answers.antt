use Rattle.std.proofs.Common.{◌≡◌, Bool, List, map, sym, ap, ◌∙◌, subst}
use Rattle.std.specs.Prelude.{IfOk, filter, bytes_eq}
use Rattle.row_tables.specs.Arrived.{sorted}
use Rattle.row_tables.specs.Namespaces.{full_key, own_texts, all_rows}
use Rattle.row_tables.proofs.NamespaceHomes.{at_given}
use Rattle.row_tables.proofs.NamespacesArrived.{key}
use Rattle.row_tables.proofs.SnapshotterRows.{filter_both}
use Rattle.row_tables.proofs.HousedListings.{sorted_at, none_sorted}
use Rattle.row_tables.proofs.snapshotters.list.rows_of.Goals as goal

-- the rows of the snapshotter are among those of the namespace
pub returns-in-Some-clause-ok : goal.returns-in-Some-clause-ok
returns-in-Some-clause-ok g c =
    let of_ns : g.row.R.Denot → Bool = λ row. bytes_eq c.args.ns.now (g.R.SnapshotterRow.ns_of row) in
    let of_snapshotter : g.row.R.Denot → Bool = λ row. bytes_eq c.args.snapshotter.now (g.R.GroupedRow.group_of row) in
    subst (λ (rows : List g.row.R.Denot). IfOk c.list_in.result (λ list. map (λ row. row.now) list.items ≡ rows))
    (sym (filter_both of_ns of_snapshotter (sorted (key own_texts (full_key g.K.Named.texts_of g.R.NamedRow.name_of g.R.GroupedRow.group_of) g.R.SnapshotterRow.ns_of) (all_rows c.args.groups.now.entries))
    ∙ ap (filter of_snapshotter) (sorted_at own_texts (full_key g.K.Named.texts_of g.R.NamedRow.name_of g.R.GroupedRow.group_of) g.R.SnapshotterRow.ns_of c.args.ns.now c.args.groups.now.entries c.requires c.in-Some.home c.index.result.now (at_given c.args.groups.now.entries c.in-Some.home c.args.ns.now c.in-Some.ensures.found.0 c.index.result.now c.in-Some.ensures.found.1 c.index.ensures))))
    c.list_in.ensures.ok

pub returns-in-None-clause-ok : goal.returns-in-None-clause-ok
returns-in-None-clause-ok g c =
    let of_ns : g.row.R.Denot → Bool = λ row. bytes_eq c.args.ns.now (g.R.SnapshotterRow.ns_of row) in
    let of_snapshotter : g.row.R.Denot → Bool = λ row. bytes_eq c.args.snapshotter.now (g.R.GroupedRow.group_of row) in
    ap (map (λ row. row.now)) c.new.ensures.items
    ∙ sym (filter_both of_ns of_snapshotter (sorted (key own_texts (full_key g.K.Named.texts_of g.R.NamedRow.name_of g.R.GroupedRow.group_of) g.R.SnapshotterRow.ns_of) (all_rows c.args.groups.now.entries))
    ∙ ap (filter of_snapshotter) (none_sorted own_texts (full_key g.K.Named.texts_of g.R.NamedRow.name_of g.R.GroupedRow.group_of) g.R.SnapshotterRow.ns_of c.args.ns.now c.args.groups.now.entries c.requires c.in-None.ensures.none))
