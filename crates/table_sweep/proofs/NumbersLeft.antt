-- What stays is numbered as all rows were: a snapshot that stays keeps its parent.
use Rattle.std.proofs.Common.{◌≡◌, ◌<◌, Bool, true, not, List, sym, ap, ◌∙◌, subst, ℤ}
use Rattle.std.specs.Prelude.{All, Contains, filter, Option, Some, IfSome, IsTrue, ◌==◌}
use Rattle.std.proofs.lemmas.List.Elements.{All-filter, All-contains}
use Rattle.std.proofs.lemmas.List.Kept.{AllPairs-filter}
use Rattle.meta_types.specs.Rows.{Records, snap_key, ingest_key}
use Rattle.meta_types.specs.Paths.{Thing, TellsReached}
use Rattle.meta_types.specs.Collected.{snapshot_stays, ingest_stays}
use Rattle.meta_types.specs.Ops.Snapshots.{is_committed}
use Rattle.meta_types.specs.Sound.{HasParent, AreNumbered}
use Rattle.meta_types.specs.declared.rows.IngestRow.{IngestRow}
use Rattle.meta_types.specs.declared.rows.SnapRow.{SnapRow}
use Rattle.meta_types.proofs.ListSearches.{all_left}
use Rattle.meta_types.proofs.TablesAfter.{same_parent}
use Rattle.row_tables.specs.Arrived.{sorted}
use Rattle.table_sweep.specs.declared.masks.Masks.{Masks}
use Rattle.table_sweep.specs.Stays.{AreMasks, StayNumbered}
use Rattle.table_sweep.specs.InKeyOrder.{records_in_key_order}
use Rattle.table_sweep.proofs.Planned.{kept_by}
use Rattle.table_sweep.proofs.Fitting.{numbered_as}
use Rattle.table_sweep.proofs.SortedRows.{sorted_filter}

abbrev UnlikeIngest : SnapRow → IngestRow → Type 0
UnlikeIngest snap begun = IsTrue (not (snap.number == begun.number))

module _ (records : Records) (at : ℤ) (reached : Thing → Bool) (tells_reached : TellsReached records at reached) where
  abbrev snaps : List SnapRow
  snaps = records.tables.snapshots

  abbrev begun : List IngestRow
  begun = records.tables.ingests

  abbrev snaps_left : List SnapRow
  snaps_left = filter (snapshot_stays reached) snaps

  abbrev begun_left : List IngestRow
  begun_left = filter (ingest_stays reached) begun

  has_parent : (row : SnapRow) → Contains snaps row → snapshot_stays reached row ≡ true
      → HasParent snaps row → HasParent snaps_left row
  has_parent row c stays has = subst (λ (o : Option SnapRow). IfSome row.parent (λ name. (above : SnapRow) × (o ≡ Some above) × IsTrue (is_committed above.kind) × (above.number < row.number)))
      (sym (same_parent records at reached tells_reached row c stays has)) has

  pub numbered_left : AreNumbered snaps begun → AreNumbered snaps_left begun_left
  numbered_left s = record {
    parents = all_left (HasParent snaps_left) (snapshot_stays reached) snaps (λ row c stays. has_parent row c stays (All-contains (HasParent snaps) snaps row s.parents c));
    snapshots_apart = AllPairs-filter (λ (a : SnapRow) (b : SnapRow). IsTrue (not (a.number == b.number))) (snapshot_stays reached) snaps s.snapshots_apart;
    ingests_apart = AllPairs-filter (λ (a : IngestRow) (b : IngestRow). IsTrue (not (a.number == b.number))) (ingest_stays reached) begun s.ingests_apart;
    apart = all_left (λ (snap : SnapRow). All (UnlikeIngest snap) begun_left) (snapshot_stays reached) snaps
        (λ row c stays. All-filter (ingest_stays reached) (UnlikeIngest row) begun (All-contains (λ (snap : SnapRow). All (UnlikeIngest snap) begun) snaps row s.apart c));
  }

-- what the masks keep of rows as they arrived is numbered
pub stay_numbered : (arrived : Records) (at : ℤ) (reached : Thing → Bool)
    → TellsReached (records_in_key_order arrived) at reached → (masks : Masks)
    → AreMasks arrived at reached masks
    → AreNumbered (sorted snap_key arrived.tables.snapshots) (sorted ingest_key arrived.tables.ingests)
    → StayNumbered arrived.tables masks
stay_numbered arrived at reached told masks are s = record {
  numbered = numbered_as _ _ _ _
      (sym (ap (sorted snap_key) (kept_by (snapshot_stays reached) arrived.tables.snapshots masks.snapshots.items are.snapshots) ∙ sorted_filter snap_key (snapshot_stays reached) arrived.tables.snapshots))
      (sym (ap (sorted ingest_key) (kept_by (ingest_stays reached) arrived.tables.ingests masks.ingests.items are.ingests) ∙ sorted_filter ingest_key (ingest_stays reached) arrived.tables.ingests))
      (numbered_left (records_in_key_order arrived) at reached told s);
}
