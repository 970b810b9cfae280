-- A new snapshot, active or a view, keeps a state sound.
use Rattle.std.proofs.Common.{◌≡◌, false, not, List, refl}
use Rattle.std.specs.Prelude.{Option, None, is_some, is_none, option_map, ◌&&◌}
use Rattle.std.specs.Option.{option_map_or}
use Rattle.std.proofs.lemmas.Bool.{or_parts, not-false}
use Rattle.meta_types.specs.Text.{Text}
use Rattle.meta_types.specs.Keys.{add_row}
use Rattle.meta_types.specs.Labels.{labels_of}
use Rattle.meta_types.specs.Data.{data_of}
use Rattle.meta_types.specs.Rows.{State, snap_key}
use Rattle.meta_types.specs.Limits.{is_out_of_numbers}
use Rattle.meta_types.specs.Changes.{with_snapshots, with_snapshot_object}
use Rattle.meta_types.specs.Ops.Snapshots.{is_committed, parent_row, prepares}
use Rattle.meta_types.specs.Ops.{least_fault, lacks}
use Rattle.meta_types.specs.Requests.{outcome}
use Rattle.meta_types.specs.Sound.{IsSound}
use Rattle.meta_types.specs.declared.rows.SnapRow.{SnapRow}
use Rattle.meta_types.specs.declared.rows.SnapKind.{SnapKind}
use Rattle.meta_types.specs.declared.rows.SnapKind.TheVariants.{Active, View}
use Rattle.meta_types.specs.declared.resource.Resource.TheVariants.{Snapshot}
use Rattle.meta_types.specs.declared.request.SnapAdd.{SnapAdd}
use Rattle.meta_types.specs.declared.request.Request.TheVariants.{SnapPrepare, SnapView}
use Rattle.request_core.proofs.ListsSound.{none_applies, sound_leases, leases_held}
use Rattle.object_tables.proofs.ParentsKept.{has_parent}
use Rattle.request_core.proofs.MadeSound.{parent_below, snap_made}

-- what requests ask for is enough
after_prepares : (state : State) (kind : SnapKind) (asked : SnapAdd) → IsSound state
    → least_fault (prepares state kind asked) ≡ None
    → IsSound (prepares state kind asked).after
after_prepares state kind asked s none =
    let f = none_applies (prepares state kind asked) none in
    let rows = state.records.tables.snapshots in
    let above = parent_row rows asked.snapshot.ns asked.snapshot.snapshotter asked.parent in
    let new : SnapRow = record {
      key = record {
        ns = asked.snapshot.ns;
        snapshotter = asked.snapshot.snapshotter;
        name = asked.snapshot.name;
      };
      kind = kind;
      parent = asked.parent;
      number = state.records.next;
      labels = labels_of asked.labels;
      extra = data_of asked.extra;
    } in
    let missing = or_parts (lacks state asked.snapshot.ns asked.lease)
    (is_some asked.parent && is_none above) f.1 in
    let forbidden = or_parts
    (option_map_or (λ (row : SnapRow). not (is_committed row.kind)) above false)
    (is_out_of_numbers state) f.3 in
    let grown = snap_made state new s refl (not-false _ (or_parts _ _ missing.0).0) f.2
    (has_parent rows new missing.1 forbidden.0 (parent_below state new s refl)) in
    sound_leases
    (with_snapshot_object asked.snapshot.snapshotter (option_map (λ row. row.number) above)
    (with_snapshots state (add_row snap_key new rows))) grown _
    (leases_held state.records.tables.namespaces asked.snapshot.ns asked.lease
    (Snapshot asked.snapshot.snapshotter asked.snapshot.name)
    state.records.leases s.leases)

pub after_snap_prepare : (state : State) (asked : SnapAdd) → IsSound state
    → least_fault (outcome state (SnapPrepare asked)) ≡ None
    → IsSound (outcome state (SnapPrepare asked)).after
after_snap_prepare state asked s none = after_prepares state Active asked s none

pub after_snap_view : (state : State) (asked : SnapAdd) → IsSound state
    → least_fault (outcome state (SnapView asked)) ≡ None
    → IsSound (outcome state (SnapView asked)).after
after_snap_view state asked s none = after_prepares state View asked s none
