-- What each change of the snapshots keeps: `AreTables` after it.
use Rattle.std.proofs.Common.{◌≡◌, true, false, not, List, [], ◌∷◌, refl, ap, ◌∙◌}
use Rattle.std.specs.Prelude.{All, Some, IsTrue, is_some, is_none, bytes_eq, ◌&&◌, ◌==◌}
use Rattle.std.specs.List.{list_any}
use Rattle.std.proofs.lemmas.List.Elements.{All-contains}
use Rattle.meta_types.specs.Text.{Text}
use Rattle.meta_types.specs.Keys.{Key, has_row, row_at, add_row, remove_row, change_row}
use Rattle.meta_types.specs.Labels.{LabelList}
use Rattle.meta_types.specs.Rows.{Tables, snap_key}
use Rattle.meta_types.specs.Changes.{has_namespace}
use Rattle.meta_types.specs.Ops.Snapshots.{is_active, committed, is_child_of}
use Rattle.meta_types.specs.Sound.{parent_of, HasParent, AreTables}
use Rattle.meta_types.specs.declared.rows.IngestRow.{IngestRow}
use Rattle.meta_types.specs.declared.rows.SnapRow.{SnapRow}
use Rattle.meta_types.proofs.KeepsSound.{rows_added, rows_removed, rows_changed}
use Rattle.object_tables.specs.Calls.{without_snap}
use Rattle.object_tables.proofs.RowsKept.{taken_out, free_removed}
use Rattle.object_tables.proofs.ParentsKept.{reset}
use Rattle.object_tables.proofs.NumbersKept.{
  numbered_snap_added,
  numbered_snap_removed,
  numbered_snap_reset,
}
use Rattle.object_tables.proofs.CommitKept.{named, committed_is, row_of, numbered_committed}
use Rattle.object_tables.proofs.SomeKept.{fresh_is_childless}
use Rattle.object_tables.proofs.OtherTables.{other_snapshots}

module _ (tables : Tables) (s : AreTables tables) where
  -- the tables stay sound if a snapshot is added whose key and number are free, and whose namespace
  -- and parent are there
  pub snap_added : (row : SnapRow) → has_namespace tables row.key.ns ≡ true
      → has_row snap_key (snap_key row) tables.snapshots ≡ false → HasParent tables.snapshots row
      → All (λ (other : SnapRow). IsTrue (not (row.number == other.number))) tables.snapshots
      → All (λ (begun : IngestRow). IsTrue (not (row.number == begun.number))) tables.ingests
      → AreTables (record tables { snapshots = add_row snap_key row tables.snapshots })
  snap_added row there free has fresh none =
      other_snapshots tables s _
      (rows_added snap_key (λ (other : SnapRow). other.key.ns) tables.namespaces row
      tables.snapshots there free s.snapshots)
      (numbered_snap_added tables.ingests row tables.snapshots free has fresh none s.numbered)

  -- the tables stay sound if a snapshot without children is removed
  pub snap_removed : (ns snapshotter key : Text)
      → list_any (is_child_of ns snapshotter key) tables.snapshots ≡ false
      → AreTables (record tables
      { snapshots = remove_row snap_key (ns ∷ snapshotter ∷ key ∷ []) tables.snapshots })
  snap_removed ns snapshotter key childless =
      other_snapshots tables s _
      (rows_removed snap_key (λ (row : SnapRow). row.key.ns) tables.namespaces
      (ns ∷ snapshotter ∷ key ∷ []) tables.snapshots s.snapshots)
      (numbered_snap_removed tables.ingests ns snapshotter key tables.snapshots childless
      s.numbered)

  -- the tables stay sound if the labels and the data of a snapshot change
  pub snap_reset : (key : Key) (labels_in : SnapRow → LabelList) (extra_in : SnapRow → Text)
      → AreTables
      (record tables {
        snapshots = change_row snap_key key (reset labels_in extra_in) tables.snapshots;
      })
  snap_reset key labels_in extra_in =
      other_snapshots tables s _
      (rows_changed snap_key (λ (row : SnapRow). row.key.ns) tables.namespaces key
      (reset labels_in extra_in)
      (λ row. refl) (λ row. refl) tables.snapshots s.snapshots)
      (numbered_snap_reset tables.ingests key labels_in extra_in tables.snapshots s.numbered)

  -- the tables stay sound if an active snapshot is committed under a free name
  pub snap_committed : (ns snapshotter key name : Text) (labels : LabelList) (extra : Text)
      (row : SnapRow)
      → row_at snap_key (ns ∷ snapshotter ∷ key ∷ []) tables.snapshots ≡ Some row
      → is_active row.kind ≡ true
      → has_row snap_key (ns ∷ snapshotter ∷ name ∷ []) tables.snapshots ≡ false
      → AreTables
      (record tables {
        snapshots = committed ns snapshotter key name labels extra tables.snapshots;
      })
  snap_committed ns snapshotter key name labels extra row found active free =
      let rows = tables.snapshots in
      let gone : Key = ns ∷ snapshotter ∷ key ∷ [] in
      let of = row_of ns snapshotter key name labels extra rows row found active free in
      let there : list_any (bytes_eq ns) tables.namespaces ≡ true =
      ap (λ t. list_any (bytes_eq t) tables.namespaces) of.1
      ∙ All-contains
      (λ (other : SnapRow). IsTrue (list_any (bytes_eq other.key.ns) tables.namespaces))
      rows row s.snapshots.named of.0 in
      rw (committed_is ns snapshotter key name labels extra rows row found active free)
      (other_snapshots tables s _
      (rows_added snap_key (λ (other : SnapRow). other.key.ns) tables.namespaces
      (named ns snapshotter key name labels extra rows row) (remove_row snap_key gone rows) there
      (free_removed snap_key (ns ∷ snapshotter ∷ name ∷ []) gone rows free)
      (rows_removed snap_key (λ (other : SnapRow). other.key.ns) tables.namespaces gone rows
      s.snapshots))
      (numbered_committed ns snapshotter key name labels extra rows row found active free
      tables.ingests
      s.numbered))

  -- the rows are those before an addition that was taken back
  pub snapshots_again : (added end : Tables) (row : SnapRow)
      → added ≡ record tables { snapshots = add_row snap_key row tables.snapshots }
      → end ≡ record added
      { snapshots = without_snap row.key.ns row.key.snapshotter row.key.name added.snapshots }
      → has_row snap_key (snap_key row) tables.snapshots ≡ false
      → (is_some row.parent && is_none (parent_of tables.snapshots row)) ≡ false → end ≡ tables
  snapshots_again added end row grown gone free there =
      rw (
        gone,
        grown,
        fresh_is_childless row.key.ns row.key.snapshotter row.key.name row tables.snapshots
            tables.ingests s.numbered free there,
      )
      (ap (λ (rows : List SnapRow). record tables { snapshots = rows })
      (taken_out snap_key row tables.snapshots free))
