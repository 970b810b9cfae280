-- What requests on snapshots do. A call or a kind in brackets is of containerd's snapshots service.
-- Ours, unless a source stands beside.
use Rattle.std.specs.Prelude.{Bool, true, false, not, ◌&&◌, ◌||◌, List, [], ◌∷◌, map, Option, None, filter, bytes_eq, is_some, is_none, option_map, option_and_then, unwrap_or}
use Rattle.std.specs.List.{list_any, dedup}
use Rattle.std.specs.Option.{option_map_or}
use Rattle.meta_types.specs.Text.{Text, is_short_name, is_name}
use Rattle.meta_types.specs.Keys.{row_at, has_row, add_row, remove_row, change_row}
use Rattle.meta_types.specs.Labels.{LabelList, labels_of, are_labels, put_label}
use Rattle.meta_types.specs.Updates.{updated, update_tests}
use Rattle.meta_types.specs.Data.{is_data, data_of}
use Rattle.meta_types.specs.Rows.{State, snap_key}
use Rattle.meta_types.specs.Limits.{is_out_of_numbers}
use Rattle.meta_types.specs.Changes.{with_snapshots, with_snapshot_object, holding, dropping, is_allowed_if, all_of}
use Rattle.meta_types.specs.Ops.{Outcome, Findings, in_store, done, labelled, row_reply, lacks, is_allowed_snapshot, snapshot_key, names_in}
use Rattle.meta_types.specs.declared.rows.SnapRow.{SnapRow}
use Rattle.meta_types.specs.declared.rows.SnapKind.{SnapKind}
use Rattle.meta_types.specs.declared.rows.SnapKind.TheVariants.{Active, View, Committed}
use Rattle.meta_types.specs.declared.resource.Resource.TheVariants.{Snapshot}
use Rattle.meta_types.specs.declared.raw.RawLabel.{RawLabel}
use Rattle.meta_types.specs.declared.request.RawSnapshot.{RawSnapshot}
use Rattle.meta_types.specs.declared.request.SnapAdd.{SnapAdd}
use Rattle.meta_types.specs.declared.request.SnapCommit.{SnapCommit}
use Rattle.meta_types.specs.declared.request.RowUpdate.{RowUpdate}
use Rattle.meta_types.specs.declared.reply.ReplyRow.TheVariants as W
use Rattle.meta_types.specs.declared.reply.Reply.TheVariants as R

-- others may stand over the snapshot (KindCommitted)
abbrev pub is_committed : SnapKind → Bool
is_committed Committed = true
is_committed Active = false
is_committed View = false

-- it can be committed (KindActive)
abbrev pub is_active : SnapKind → Bool
is_active Active = true
is_active Committed = false
is_active View = false

-- the row of a parent, where one is named (containerd snapshots service)
abbrev pub parent_row : List SnapRow → Text → Text → Option Text → Option SnapRow
parent_row rows ns snapshotter parent = option_and_then (λ name. row_at snap_key (ns ∷ snapshotter ∷ name ∷ []) rows) parent

-- what a new snapshot finds among the rows: its parent, another of its key, and whether one may
-- stand over the parent (Prepare and View)
abbrev pub new_snap_findings : Text → Text → Text → Option Text → List SnapRow → Findings
new_snap_findings ns snapshotter key parent rows =
    let above = parent_row rows ns snapshotter parent in
    record {
      missing = is_some parent && is_none above;
      there = has_row snap_key (ns ∷ snapshotter ∷ key ∷ []) rows;
      forbidden = option_map_or (λ row. not (is_committed row.kind)) above false;
    }

-- what a request for a new snapshot finds, which wants a backend number too (Prepare and View)
abbrev pub prepare_findings : State → Text → Text → Text → Option Text → Option Text → Findings
prepare_findings state ns snapshotter key parent lease =
    let found = in_store state ns lease (new_snap_findings ns snapshotter key parent state.records.tables.snapshots) in
    record found { forbidden = found.forbidden || is_out_of_numbers state }

-- makes a snapshot over a committed parent or none, under the next
-- backend number (Prepare and View)
abbrev pub prepares : State → SnapKind → SnapAdd → Outcome
prepares state kind asked =
    let rows = state.records.tables.snapshots in
    let above = parent_row rows asked.snapshot.ns asked.snapshot.snapshotter asked.parent in
    let new : SnapRow = record {
      key = record {
        ns = asked.snapshot.ns;
        snapshotter =
            asked.snapshot.snapshotter;
        name = asked.snapshot.name;
      };
      kind = kind;
      parent =
          asked.parent;
      number = state.records.next;
      labels = labels_of asked.labels;
      extra =
          data_of asked.extra;
    } in
    let found = prepare_findings state asked.snapshot.ns asked.snapshot.snapshotter asked.snapshot.name asked.parent asked.lease in
    record (done state) {
      invalid = not (all_of (is_short_name asked.snapshot.ns
          ∷ is_short_name asked.snapshot.snapshotter ∷ is_name asked.snapshot.name
          ∷ is_allowed_if is_name asked.parent ∷ are_labels asked.labels
          ∷ is_allowed_if is_name asked.lease ∷ is_allowed_if is_data asked.extra ∷ []));
      missing = found.missing;
      there = found.there;
      forbidden = found.forbidden;
      after = holding asked.snapshot.ns asked.lease (Snapshot asked.snapshot.snapshotter asked.snapshot.name) (with_snapshot_object asked.snapshot.snapshotter (option_map (λ row. row.number) above) (with_snapshots state (add_row snap_key new rows)));
    }

-- the rows with a key's row committed under a name, with its parent and number and with these
-- labels and this data (Commit, but for the labels and the data)
abbrev pub committed : Text → Text → Text → Text → LabelList → Text → List SnapRow → List SnapRow
committed ns snapshotter key name labels extra rows =
    option_map_or (λ row. add_row snap_key (record row {
      key = record
          { ns = ns; snapshotter = snapshotter; name = name };
      kind = Committed;
      labels = labels;
      extra = extra;
    })
    (remove_row snap_key (ns ∷ snapshotter ∷ key ∷ []) rows)) (row_at snap_key (ns ∷ snapshotter ∷ key ∷ []) rows) rows

-- what a commit finds among the rows: the key's row, another of the name, and
-- whether the row is active (Commit)
abbrev pub commit_findings : Text → Text → Text → Text → List SnapRow → Findings
commit_findings ns snapshotter key name rows =
    let found = row_at snap_key (ns ∷ snapshotter ∷ key ∷ []) rows in
    record {
      missing = is_none found;
      there = has_row snap_key (ns ∷ snapshotter ∷ name ∷ []) rows;
      forbidden = option_map_or (λ row. not (is_active row.kind)) found false;
    }

-- commits an active snapshot under a name that no snapshot has, itself included, and takes the
-- active one from a lease (Commit)
abbrev pub commits_snapshot : State → SnapCommit → Outcome
commits_snapshot state asked =
    let rows = state.records.tables.snapshots in
    let found = in_store state asked.snapshot.ns asked.lease (commit_findings asked.snapshot.ns asked.snapshot.snapshotter asked.snapshot.name asked.name rows) in
    record (done state) {
      invalid = not (all_of (is_short_name asked.snapshot.ns
          ∷ is_short_name asked.snapshot.snapshotter ∷ is_name asked.snapshot.name
          ∷ is_name asked.name ∷ are_labels asked.labels ∷ is_allowed_if is_name asked.lease
          ∷ is_allowed_if is_name asked.dropped_by ∷ is_allowed_if is_data asked.extra ∷ []));
      missing = found.missing;
      there = found.there;
      forbidden = found.forbidden;
      after = dropping asked.snapshot.ns asked.dropped_by
          (Snapshot asked.snapshot.snapshotter asked.snapshot.name)
          (holding asked.snapshot.ns asked.lease (Snapshot asked.snapshot.snapshotter asked.name)
          (with_snapshots state (committed asked.snapshot.ns asked.snapshot.snapshotter
          asked.snapshot.name asked.name (labels_of asked.labels) (data_of asked.extra) rows)));
    }

-- the snapshot's parent has this name, in this namespace and snapshotter
-- (containerd snapshots service)
abbrev pub is_child_of : Text → Text → Text → SnapRow → Bool
is_child_of ns snapshotter key row = bytes_eq ns row.key.ns && bytes_eq snapshotter row.key.snapshotter && option_map_or (bytes_eq key) row.parent false

-- removes a snapshot that is no parent, and takes it from a lease; its backend object goes at a
-- later collection (Remove)
abbrev pub removes_snapshot : State → RawSnapshot → Option Text → Outcome
removes_snapshot state snapshot dropped_by =
    let rows = state.records.tables.snapshots in
    record (done state) {
      invalid = not (all_of (is_short_name snapshot.ns ∷ is_short_name snapshot.snapshotter
          ∷ is_name snapshot.name ∷ is_allowed_if is_name dropped_by ∷ []));
      missing = not (has_row snap_key (snapshot_key snapshot) rows);
      forbidden = list_any (is_child_of snapshot.ns snapshot.snapshotter snapshot.name) rows;
      after = dropping snapshot.ns dropped_by (Snapshot snapshot.snapshotter snapshot.name)
          (with_snapshots state (remove_row snap_key (snapshot_key snapshot) rows));
    }

-- shows a snapshot (Stat)
abbrev pub gets_snapshot : State → RawSnapshot → Outcome
gets_snapshot state snapshot =
    let found =
    row_at snap_key (snapshot_key snapshot) state.records.tables.snapshots in
    record (done state) {
      invalid = not (is_allowed_snapshot snapshot);
      missing = is_none found;
      reply = row_reply W.Snap found;
    }

-- puts one label on a snapshot (Update)
abbrev pub labels_snapshot : State → RawSnapshot → RawLabel → Outcome
labels_snapshot state snapshot label =
    let rows = state.records.tables.snapshots in
    let found = row_at snap_key (snapshot_key snapshot) rows in
    record (done state) {
      invalid = not (is_allowed_snapshot snapshot) || not (all_of (labelled (λ row. row.labels) label.key label.value found));
      missing = is_none found;
      after = with_snapshots state (change_row snap_key (snapshot_key snapshot) (λ row. record row { labels = put_label label.key label.value row.labels }) rows);
    }

-- a snapshot with what the request replaces
abbrev pub set_snapshot : RowUpdate → SnapRow → SnapRow
set_snapshot update row = record row {
  labels = updated update row.labels;
  extra = unwrap_or
      update.extra row.extra;
}

-- replaces what is given of a snapshot: its labels, its data (Update)
abbrev pub sets_snapshot : State → RawSnapshot → RowUpdate → Outcome
sets_snapshot state snapshot update =
    let rows = state.records.tables.snapshots in
    let found = row_at snap_key (snapshot_key snapshot) rows in
    record (done state) {
      invalid = not (is_allowed_snapshot snapshot) || not
          (all_of (update_tests (λ row. row.labels) update found));
      missing = is_none found;
      after = with_snapshots state (change_row snap_key (snapshot_key snapshot)
          (set_snapshot update) rows);
    }

-- the names of a snapshotter's snapshots in a namespace (List)
abbrev pub snapshots_in : Text → Text → List SnapRow → List Text
snapshots_in ns snapshotter rows = map (λ row. row.key.name) (filter (λ row. bytes_eq ns row.key.ns && bytes_eq snapshotter row.key.snapshotter) rows)

-- lists them; a snapshotter that nobody used has none (List)
abbrev pub lists_snapshots : State → Text → Text → Outcome
lists_snapshots state ns snapshotter =
    record (done state) {
      invalid = not (all_of (is_short_name ns ∷ is_short_name snapshotter ∷ []));
      missing = lacks state ns None;
      reply = R.Names (snapshots_in ns snapshotter state.records.tables.snapshots);
    }

-- the snapshotters that have a snapshot in a namespace, each once, since a snapshotter's rows stand
-- side by side (containerd snapshots service)
abbrev pub snapshotters_in : Text → List SnapRow → List Text
snapshotters_in ns rows = dedup bytes_eq (names_in (λ row. row.key.ns) (λ row. row.key.snapshotter)
    ns rows)

-- lists them, by their bytes
abbrev pub lists_snapshotters : State → Text → Outcome
lists_snapshotters state ns =
    record (done state) {
      invalid = not (all_of (is_short_name ns ∷ []));
      missing = lacks state ns None;
      reply = R.Names (snapshotters_in ns state.records.tables.snapshots);
    }
