-- Labels and data of snapshots, and removals of snapshots, keep a state sound.
use Rattle.std.proofs.Common.{◌≡◌, ◌<◌, false, List, [], ◌∷◌}
use Rattle.std.specs.Prelude.{All, Option, None, unwrap_or}
use Rattle.std.proofs.lemmas.List.Elements.{All-weaker}
use Rattle.meta_types.specs.Text.{Text}
use Rattle.meta_types.specs.Keys.{Key, remove_row, change_row}
use Rattle.meta_types.specs.Labels.{LabelList, put_label}
use Rattle.meta_types.specs.Updates.{updated}
use Rattle.meta_types.specs.Rows.{State, snap_key}
use Rattle.meta_types.specs.Changes.{with_snapshots}
use Rattle.meta_types.specs.Ops.Snapshots.{is_child_of}
use Rattle.meta_types.specs.Ops.{least_fault}
use Rattle.meta_types.specs.Requests.{outcome}
use Rattle.meta_types.specs.Sound.{HaveObjects, HasParent, IsSound}
use Rattle.meta_types.specs.declared.rows.SnapRow.{SnapRow}
use Rattle.meta_types.specs.declared.raw.RawLabel.{RawLabel}
use Rattle.meta_types.specs.declared.request.RawSnapshot.{RawSnapshot}
use Rattle.meta_types.specs.declared.request.RowUpdate.{RowUpdate}
use Rattle.meta_types.specs.declared.resource.Resource.TheVariants.{Snapshot}
use Rattle.meta_types.specs.declared.request.Request.TheVariants.{SnapRemove, SnapSet, SnapLabel}
use Rattle.meta_types.proofs.KeepsSound.{all_removed, all_changed}
use Rattle.request_core.proofs.ListsSound.{none_applies, sound_leases, sound_snapshots, leases_released}
use Rattle.object_tables.proofs.PairsKept.{all_both, each_fails}
use Rattle.object_tables.proofs.ParentsKept.{key_above, number_above, parent_kept, stays_removed, stays_reset, other_parent, reset}
use Rattle.object_tables.proofs.TablesKept.{snap_removed, snap_reset}
use Rattle.request_core.proofs.ObjectsKept.{HasObject, objects_kept}

-- ---- one list is another

-- other rows over the same objects
pub rows_backed : (state : State) (rows : List SnapRow) → IsSound state
    → All (λ (row : SnapRow). row.number < state.records.next) rows
    → All (HasObject state.backends.snapshots rows) rows
    → HaveObjects rows state.records.tables.ingests state.records.next state.backends.snapshots
    state.backends.ingests
rows_backed state rows s below objects = record {
  snapshots_below = below;
  ingests_below = s.backed.ingests_below;
  objects_below = s.backed.objects_below;
  begun_below = s.backed.begun_below;
  ingests_begun = s.backed.ingests_begun;
  objects = objects;
  back_parents = s.backed.back_parents;
  objects_in_order = s.backed.objects_in_order;
  begun_in_order = s.backed.begun_in_order;
}

-- ---- labels and removals

-- labels and data of a row are others
snap_becomes : (state : State) (place : Key) (labels_in : SnapRow → LabelList)
    (extra_in : SnapRow → Text) → IsSound state
    → IsSound (with_snapshots state (change_row snap_key place (reset labels_in extra_in)
    state.records.tables.snapshots))
snap_becomes state place labels_in extra_in s =
    let rows = state.records.tables.snapshots in
    let change : SnapRow → SnapRow = reset labels_in extra_in in
    let after = change_row snap_key place change rows in
    let numbers : All (λ row. number_above after row ≡ number_above rows row) rows =
    All-weaker (HasParent rows) (λ row. number_above after row ≡ number_above rows row)
    (λ row has.
    (parent_kept rows after row (λ n e. stays_reset place (key_above row n) labels_in extra_in rows)
    has).1) rows s.tables.numbered.parents in
    sound_snapshots state s after state.records.next state.backends.snapshots
    (snap_reset state.records.tables s.tables place labels_in extra_in) (rows_backed state after s
    (all_changed snap_key (λ (row : SnapRow). row.number < state.records.next) place
    change
    (λ row h. h) rows s.backed.snapshots_below)
    (all_changed snap_key (HasObject state.backends.snapshots after) place change
    (λ row h. h)
    rows (objects_kept state.backends.snapshots rows after rows numbers s.backed.objects)))

pub after_snap_set : (state : State) (snapshot : RawSnapshot) (update : RowUpdate) → IsSound state
    → IsSound (outcome state (SnapSet snapshot update)).after
after_snap_set state snapshot update s =
    snap_becomes state (snapshot.ns ∷ snapshot.snapshotter ∷ snapshot.name ∷ [])
    (λ row. updated update row.labels) (λ row. unwrap_or update.extra row.extra) s

pub after_snap_label : (state : State) (snapshot : RawSnapshot) (label : RawLabel) → IsSound state
    → IsSound (outcome state (SnapLabel snapshot label)).after
after_snap_label state snapshot label s =
    snap_becomes state (snapshot.ns ∷ snapshot.snapshotter ∷ snapshot.name ∷ [])
    (λ row. put_label label.key label.value row.labels) (λ row. row.extra) s

pub after_snap_remove : (state : State) (snapshot : RawSnapshot) (dropped_by : Option Text)
    → IsSound state → least_fault (outcome state (SnapRemove snapshot dropped_by)) ≡ None
    → IsSound (outcome state (SnapRemove snapshot dropped_by)).after
after_snap_remove state snapshot dropped_by s none =
    let f = none_applies (outcome state (SnapRemove snapshot dropped_by)) none in
    let rows = state.records.tables.snapshots in
    let gone : Key = snapshot.ns ∷ snapshot.snapshotter ∷ snapshot.name ∷ [] in
    let after = remove_row snap_key gone rows in
    let numbers : All (λ row. number_above after row ≡ number_above rows row) rows =
    all_both (λ row. is_child_of snapshot.ns snapshot.snapshotter snapshot.name row ≡ false)
    (HasParent rows)
    (λ row. number_above after row ≡ number_above rows row)
    (λ row no has. (parent_kept rows after row
    (λ n e. stays_removed gone (key_above row n) rows
    (other_parent snapshot.ns snapshot.snapshotter snapshot.name row n no e))
    has).1)
    rows (each_fails
    (is_child_of snapshot.ns snapshot.snapshotter snapshot.name) rows f.3) s.tables.numbered.parents
    in
    let left = sound_snapshots state s after state.records.next state.backends.snapshots
    (snap_removed state.records.tables s.tables snapshot.ns snapshot.snapshotter snapshot.name f.3)
    (rows_backed state after s
    (all_removed snap_key (λ (row : SnapRow). row.number < state.records.next) gone rows
    s.backed.snapshots_below)
    (all_removed snap_key (HasObject state.backends.snapshots after) gone rows
    (objects_kept state.backends.snapshots rows after rows numbers s.backed.objects))) in
    sound_leases (with_snapshots state after) left _
    (leases_released state.records.tables.namespaces snapshot.ns dropped_by
    (Snapshot snapshot.snapshotter snapshot.name) state.records.leases s.leases)
