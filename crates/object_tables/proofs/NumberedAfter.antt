-- Parents and numbers after a call: of ingests that changed, and of snapshots.
use Rattle.std.proofs.Common.{◌≡◌, Bool, false, List, [], ◌∷◌, Option, refl, sym, subst}
use Rattle.std.specs.Prelude.{Result, Ok, Err, OnOk, OnErr}
use Rattle.std.specs.List.{list_any}
use Rattle.meta_types.specs.Text.{Text}
use Rattle.meta_types.specs.Keys.{Key, has_row, add_row, remove_row, change_row}
use Rattle.meta_types.specs.Labels.{LabelList}
use Rattle.meta_types.specs.Rows.{ingest_key, snap_key}
use Rattle.meta_types.specs.Ops.Snapshots.{is_child_of}
use Rattle.meta_types.specs.Faults.{Refuses, least_of}
use Rattle.meta_types.specs.Sound.{AreNumbered}
use Rattle.meta_types.specs.declared.fault.Fault.{Fault}
use Rattle.meta_types.specs.declared.instant.Instant.{Instant}
use Rattle.meta_types.specs.declared.rows.IngestRow.{IngestRow}
use Rattle.meta_types.specs.declared.rows.SnapRow.{SnapRow}
use Rattle.row_tables.proofs.Entries.{was_free}
use Rattle.object_tables.specs.Calls.{kept}
use Rattle.object_tables.specs.Edits.{ingest_until}
use Rattle.object_tables.proofs.ParentsKept.{reset}
use Rattle.object_tables.proofs.NumbersKept.{
  numbered_ingest_removed,
  numbered_ingest_changed,
  numbered_snap_removed,
  numbered_snap_reset,
}
use Rattle.object_tables.proofs.SomeKept.{numbered_ingests_kept}

-- as a call that was refused, or wasn't, leaves it
either : {X : Type 0} (P : X → Type 0) (old more new : X) (r : Result (Unit {0}) Fault) → P old
    → P more → OnOk r (new ≡ more) → OnErr r (new ≡ old) → P new
either P old more new (Ok u) p q ok err = subst P (sym ok) q
either P old more new (Err e) p q ok err = subst P (sym err) p

-- ---- ingests

module _ (snapshots : List SnapRow) (old new : List IngestRow) (s : AreNumbered snapshots old) where
  -- one more, where none has its key, or as before
  pub begun_new : (row : IngestRow) (r : Result (Unit {0}) Fault)
      → (has_row ingest_key (ingest_key row) old ≡ false
      → AreNumbered snapshots (add_row ingest_key row old))
      → Refuses r (least_of false false (has_row ingest_key (ingest_key row) old) false)
      → OnOk r (new ≡ add_row ingest_key row old) → OnErr r (new ≡ old)
      → AreNumbered snapshots new
  begun_new row (Ok u) more fault ok err = subst (AreNumbered snapshots) (sym ok)
      (more (was_free (Ok u) (has_row ingest_key (ingest_key row) old) fault))
  begun_new row (Err e) more fault ok err = subst (AreNumbered snapshots) (sym err) s

  pub begun_removed : (key : Key) → new ≡ remove_row ingest_key key old
      → AreNumbered snapshots new
  begun_removed key e =
      subst (AreNumbered snapshots) (sym e) (numbered_ingest_removed snapshots key old s)

  pub ended : (key : Key) (expires : Option Instant)
      → new ≡ change_row ingest_key key (ingest_until expires) old → AreNumbered snapshots new
  ended key expires e =
      subst (AreNumbered snapshots) (sym e) (numbered_ingest_changed snapshots key
      (ingest_until expires) (λ row. refl) old s)

  pub begun_left : (marks : List Bool) → new ≡ kept marks old → AreNumbered snapshots new
  begun_left marks e =
      subst (AreNumbered snapshots) (sym e) (numbered_ingests_kept marks snapshots old s)

-- ---- snapshots

module _ (ingests : List IngestRow) (old new : List SnapRow) (s : AreNumbered old ingests) where
  abbrev Numbered : List SnapRow → Type 0
  Numbered rows = AreNumbered rows ingests

  -- one more, or as before
  pub stacked : (row : SnapRow) (r : Result (Unit {0}) Fault)
      → AreNumbered (add_row snap_key row old) ingests
      → OnOk r (new ≡ add_row snap_key row old) → OnErr r (new ≡ old) → AreNumbered new ingests
  stacked row r more ok err = either Numbered old (add_row snap_key row old) new r s more ok err

  -- one goes that is no parent
  pub unstacked : (ns snapshotter key : Text) → list_any (is_child_of ns snapshotter key) old ≡ false
      → new ≡ remove_row snap_key (ns ∷ snapshotter ∷ key ∷ []) old → AreNumbered new ingests
  unstacked ns snapshotter key childless e =
      subst Numbered (sym e) (numbered_snap_removed ingests ns snapshotter key old childless s)

  -- one has other labels and other data
  pub set_there : (key : Key) (labels_in : SnapRow → LabelList) (extra_in : SnapRow → Text)
      → new ≡ change_row snap_key key (reset labels_in extra_in) old → AreNumbered new ingests
  set_there key labels_in extra_in e =
      subst Numbered (sym e) (numbered_snap_reset ingests key labels_in extra_in old s)

  -- one has other labels, or as before
  pub relabelled : (key : Key) (labels_in : SnapRow → LabelList) (r : Result (Unit {0}) Fault)
      → OnOk r (new ≡ change_row snap_key key (reset labels_in (λ row. row.extra)) old)
      → OnErr r (new ≡ old) → AreNumbered new ingests
  relabelled key labels_in r ok err =
      either Numbered old (change_row snap_key key (reset labels_in (λ row. row.extra)) old) new r s
      (numbered_snap_reset ingests key labels_in (λ row. row.extra) old s) ok err
