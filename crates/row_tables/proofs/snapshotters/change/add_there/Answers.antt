use Rattle.row_tables.specs.Namespaces.{full_key, own_texts, all_rows}
use Rattle.std.specs.Prelude.{OnOk, slice_get}
use Rattle.std.proofs.Common.{◌≡◌, Some, false, subst}
use Rattle.meta_types.specs.Faults.{Refuses, least_of}
use Rattle.meta_types.specs.Keys.{has_row}
use Rattle.row_tables.specs.Arrived.{sorted}
use Rattle.row_tables.proofs.Entries.{was_free}
use Rattle.row_tables.proofs.HousedNamespaces.{has_at, added_apart, added_sorted, added_full, kept_at}
use Rattle.row_tables.proofs.NamespaceHomes.{at_given}
use Rattle.row_tables.proofs.NamespacesArrived.{key}
use Rattle.row_tables.proofs.snapshotters.change.add_there.Goals as goal

pub with_text-row-requires : goal.with_text-row-requires
with_text-row-requires g c = c.name_at.ensures (_, c.requires.home.0) c.requires.home.1

at : (g : _) (c : goal.After-groups-1 g)
    → slice_get c.args.groups.now.entries c.args.home ≡ Some (g.R.SnapshotterRow.ns_of c.args.row, c.index_mut.result.now)
at g c =
    at_given c.args.groups.now.entries c.args.home
    (g.R.SnapshotterRow.ns_of c.args.row) c.requires.home.0 c.index_mut.result.now c.requires.home.1 c.index_mut.ensures.value

same : (g : _) (c : goal.After-groups-1 g) → c.with_text-row.result ≡ c.args.row
same g c = c.with_text-row.ensures

pub returns-clause-fault : goal.returns-clause-fault
returns-clause-fault g c =
    subst (λ there. Refuses c.add_new.result (least_of false false there false))
    (has_at own_texts (full_key g.K.Named.texts_of g.R.NamedRow.name_of g.R.GroupedRow.group_of) g.R.SnapshotterRow.ns_of (g.R.SnapshotterRow.ns_of c.args.row) c.args.home c.index_mut.result.now c.args.groups.now.entries (at g c) c.requires.are c.add_new.new.self c.args.row (λ _. g.R.SnapshotterRow.ns_of c.args.row))
    (rw (same g c) at c.add_new.ensures.fault)

free : (g : _) (c : goal.After-groups-1 g)
    → OnOk c.add_new.result (has_row (key own_texts (full_key g.K.Named.texts_of g.R.NamedRow.name_of g.R.GroupedRow.group_of) g.R.SnapshotterRow.ns_of) (key own_texts (full_key g.K.Named.texts_of g.R.NamedRow.name_of g.R.GroupedRow.group_of) g.R.SnapshotterRow.ns_of c.args.row) (sorted (key own_texts (full_key g.K.Named.texts_of g.R.NamedRow.name_of g.R.GroupedRow.group_of) g.R.SnapshotterRow.ns_of) (all_rows c.args.groups.now.entries)) ≡ false)
free g c =
    was_free c.add_new.result
    (has_row (key own_texts (full_key g.K.Named.texts_of g.R.NamedRow.name_of g.R.GroupedRow.group_of) g.R.SnapshotterRow.ns_of) (key own_texts (full_key g.K.Named.texts_of g.R.NamedRow.name_of g.R.GroupedRow.group_of) g.R.SnapshotterRow.ns_of c.args.row) (sorted (key own_texts (full_key g.K.Named.texts_of g.R.NamedRow.name_of g.R.GroupedRow.group_of) g.R.SnapshotterRow.ns_of) (all_rows c.args.groups.now.entries)))
    (returns-clause-fault g c)

pub returns-clause-ok : goal.returns-clause-ok
returns-clause-ok g c =
    added_sorted own_texts
    (full_key g.K.Named.texts_of g.R.NamedRow.name_of g.R.GroupedRow.group_of) g.R.SnapshotterRow.ns_of
    (g.R.SnapshotterRow.ns_of c.args.row) c.args.home c.index_mut.result.now c.args.groups.now.entries
    (at g c) c.requires.are c.add_new.new.self c.args.row (λ _. g.R.SnapshotterRow.ns_of c.args.row)
    c.add_new.result (free g c) (rw (same g c) at c.add_new.ensures.ok) c.add_new.ensures.err

pub returns-clause-groups : goal.returns-clause-groups
returns-clause-groups g c =
    added_apart own_texts
    (full_key g.K.Named.texts_of g.R.NamedRow.name_of g.R.GroupedRow.group_of) g.R.SnapshotterRow.ns_of
    (g.R.SnapshotterRow.ns_of c.args.row) c.args.home c.index_mut.result.now c.args.groups.now.entries
    (at g c) c.requires.are c.add_new.new.self c.args.row (λ _. g.R.SnapshotterRow.ns_of c.args.row)
    c.add_new.result (free g c) (rw (same g c) at c.add_new.ensures.ok) c.add_new.ensures.err

pub returns-clause-full : goal.returns-clause-full
returns-clause-full g c all =
    added_full own_texts
    (full_key g.K.Named.texts_of g.R.NamedRow.name_of g.R.GroupedRow.group_of) g.R.SnapshotterRow.ns_of
    (g.R.SnapshotterRow.ns_of c.args.row) c.args.home c.index_mut.result.now c.args.groups.now.entries
    (at g c) c.requires.are c.add_new.new.self c.args.row (λ _. g.R.SnapshotterRow.ns_of c.args.row)
    c.add_new.result (free g c) (rw (same g c) at c.add_new.ensures.ok) c.add_new.ensures.err all

pub returns-clause-err : goal.returns-clause-err
returns-clause-err g c =
    kept_at own_texts
    (full_key g.K.Named.texts_of g.R.NamedRow.name_of g.R.GroupedRow.group_of) g.R.SnapshotterRow.ns_of
    (g.R.SnapshotterRow.ns_of c.args.row) c.args.home c.index_mut.result.now c.args.groups.now.entries
    (at g c) c.requires.are c.add_new.new.self c.add_new.result c.add_new.ensures.err
