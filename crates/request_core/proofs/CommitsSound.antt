-- A commit of a snapshot keeps a state sound.
use Rattle.std.proofs.Common.{◌≡◌, ℕ, ◌<◌, true, false, not, List, [], ◌∷◌, refl, sym, ap, ◌∙◌, subst}
use Rattle.std.specs.Prelude.{All, Contains, Option, Some, None, is_none}
use Rattle.std.specs.Option.{option_map_or}
use Rattle.std.proofs.lemmas.Bool.{or_parts, not-false}
use Rattle.std.proofs.lemmas.List.Elements.{All-weaker, All-contains}
use Rattle.meta_types.specs.Text.{Text}
use Rattle.meta_types.specs.Keys.{Key, row_at, has_row, add_row, remove_row}
use Rattle.meta_types.specs.Labels.{LabelList, labels_of}
use Rattle.meta_types.specs.Rows.{State, BackSnap, snap_key}
use Rattle.meta_types.specs.Data.{data_of}
use Rattle.meta_types.specs.Changes.{with_snapshots, holding}
use Rattle.meta_types.specs.Ops.Snapshots.{is_active, committed}
use Rattle.meta_types.specs.Ops.{least_fault, lacks}
use Rattle.meta_types.specs.Requests.{outcome}
use Rattle.meta_types.specs.Sound.{HasParent, IsSound, object_of}
use Rattle.meta_types.specs.declared.rows.SnapRow.{SnapRow}
use Rattle.meta_types.specs.declared.resource.Resource.TheVariants.{Snapshot}
use Rattle.meta_types.specs.declared.request.SnapCommit.{SnapCommit}
use Rattle.meta_types.specs.declared.request.Request.TheVariants as R
use Rattle.meta_types.proofs.KeepsSound.{all_added, all_removed}
use Rattle.request_core.proofs.ListsSound.{none_applies, sound_leases, sound_snapshots, leases_held, leases_released}
use Rattle.object_tables.proofs.ParentsKept.{key_above, number_above, Stays, parent_kept}
use Rattle.object_tables.proofs.CommitKept.{named, committed_is, stays_committed, row_of, named_kept}
use Rattle.object_tables.proofs.TablesKept.{snap_committed}
use Rattle.request_core.proofs.ObjectsKept.{HasObject, objects_kept}
use Rattle.request_core.proofs.SnapshotsSound.{rows_backed}

module _ (state : State) (ns snapshotter key name : Text) (labels : LabelList) (extra : Text)
    (row : SnapRow)
    (s : IsSound state) where
  abbrev rows : List SnapRow
  rows = state.records.tables.snapshots

  abbrev snaps : List BackSnap
  snaps = state.backends.snapshots

  abbrev gone : Key
  gone = ns ∷ snapshotter ∷ key ∷ []

  abbrev left : List SnapRow
  left = remove_row snap_key gone rows

  abbrev new : SnapRow
  new = named ns snapshotter key name labels extra rows row

  abbrev after : List SnapRow
  after = add_row snap_key new left

  abbrev Below : SnapRow → Type 0
  Below other = other.number < state.records.next

  module _ (found : row_at snap_key gone rows ≡ Some row) (active : is_active row.kind ≡ true)
      (free : has_row snap_key (ns ∷ snapshotter ∷ name ∷ []) rows ≡ false) where
    abbrev is : Contains rows row × (ns ≡ row.key.ns) × (snapshotter ≡ row.key.snapshotter)
    is = row_of ns snapshotter key name labels extra rows row found active free

    -- its object is the one of the row that it was
    new_object : HasObject snaps after new
    new_object =
        let was = All-contains (HasObject snaps rows) rows row s.backed.objects is.0 in
        let had = All-contains (HasParent rows) rows row s.tables.numbered.parents is.0 in
        let same = (named_kept ns snapshotter key name labels extra rows row found active free
        had).1 in
        subst (λ (t : Text). object_of snaps t row.number ≡ of t (number_above rows row))
        (sym is.2) was ∙ ap (of snapshotter) (sym same)
      where
        of : Text → Option ℕ → Option BackSnap
        of t p = Some (record { snapshotter = t; number = row.number; parent = p })

    -- the others keep theirs, since no parent is active
    old_objects : All (HasObject snaps after) rows
    old_objects = objects_kept snaps rows after rows
        (All-weaker (HasParent rows) (λ other. number_above after other ≡ number_above rows other)
        (λ other has. (parent_kept rows after other (λ n e. stays (key_above other n)) has).1) rows
        s.tables.numbered.parents) s.backed.objects
      where
        stays : (at : Key) → Stays rows after at
        stays = stays_committed ns snapshotter key name labels extra rows row found active free

    pub snap_commit_sound : IsSound
        (with_snapshots state (committed ns snapshotter key name labels extra rows))
    snap_commit_sound = sound_snapshots state s (committed ns snapshotter key name labels extra
        rows)
        state.records.next snaps
        (snap_committed state.records.tables s.tables ns snapshotter key name labels extra row found
        active free)
        (rw (committed_is ns snapshotter key name labels extra rows row found active free)
        (rows_backed state after s
        (all_added snap_key Below new (All-contains Below rows row s.backed.snapshots_below is.0)
        left (all_removed snap_key Below gone rows s.backed.snapshots_below))
        (all_added snap_key (HasObject snaps after) new new_object left
        (all_removed snap_key (HasObject snaps after) gone rows old_objects))))

pub after_snap_commit : (state : State) (asked : SnapCommit) → IsSound state
    → least_fault (outcome state (R.SnapCommit asked)) ≡ None
    → IsSound (outcome state (R.SnapCommit asked)).after
after_snap_commit state asked s none =
    let rows = state.records.tables.snapshots in
    let f = none_applies (outcome state (R.SnapCommit asked)) none in
    let whole = with_snapshots state
    (committed asked.snapshot.ns asked.snapshot.snapshotter asked.snapshot.name asked.name
    (labels_of asked.labels) (data_of asked.extra) rows) in
    let held = leases_held state.records.tables.namespaces asked.snapshot.ns asked.lease
    (Snapshot asked.snapshot.snapshotter asked.name) state.records.leases s.leases in
    sound_leases
    (holding asked.snapshot.ns asked.lease (Snapshot asked.snapshot.snapshotter asked.name) whole)
    (sound_leases whole
    (go (row_at snap_key
    (asked.snapshot.ns ∷ asked.snapshot.snapshotter ∷ asked.snapshot.name ∷ []) rows) refl
    (or_parts (lacks state asked.snapshot.ns asked.lease) _ f.1).1 f.3 f.2) _ held) _
    (leases_released state.records.tables.namespaces asked.snapshot.ns asked.dropped_by
    (Snapshot asked.snapshot.snapshotter asked.snapshot.name) _ held)
  where
    go : (found : Option SnapRow)
        → row_at snap_key
        (asked.snapshot.ns ∷ asked.snapshot.snapshotter ∷ asked.snapshot.name ∷ [])
        state.records.tables.snapshots ≡ found
        → is_none found ≡ false
        → option_map_or (λ (row : SnapRow). not (is_active row.kind)) found false ≡ false
        → has_row snap_key
        (asked.snapshot.ns ∷ asked.snapshot.snapshotter ∷ asked.name ∷ [])
        state.records.tables.snapshots ≡ false
        → IsSound (with_snapshots state
        (committed asked.snapshot.ns asked.snapshot.snapshotter asked.snapshot.name asked.name
        (labels_of asked.labels) (data_of asked.extra) state.records.tables.snapshots))
    go None e there active free = absurd cc
    go (Some row) e there active free =
        snap_commit_sound state asked.snapshot.ns asked.snapshot.snapshotter asked.snapshot.name
        asked.name (labels_of asked.labels) (data_of asked.extra) row s e
        (not-false (is_active row.kind) active) free
