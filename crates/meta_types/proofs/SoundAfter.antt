-- A collection leaves a sound store: each list of it is a filter of a sound list, and keeps what
-- the rows that stay want.
use Rattle.std.proofs.Common.{◌≡◌, ℕ, ◌<◌, Bool, true, List, sym, subst, ℤ}
use Rattle.std.specs.Prelude.{Contains, filter, Some, None, IfSome, IsTrue, bytes_eq, ◌==◌}
use Rattle.std.specs.List.{list_any}
use Rattle.std.specs.Option.{option_map_or}
use Rattle.std.proofs.lemmas.Bool.{or_left}
use Rattle.std.proofs.lemmas.Bool.Decides.{Decides-eqb}
use Rattle.std.proofs.lemmas.List.Elements.{All-filter, All-contains}
use Rattle.std.proofs.lemmas.List.Kept.{AllPairs-filter}
use Rattle.meta_types.specs.Rows.{Tables, State, BackSnap, LeaseRow, namespace_key, lease_key}
use Rattle.meta_types.specs.Changes.{stands_before}
use Rattle.meta_types.specs.Paths.{Thing, lease_stays, TellsReached}
use Rattle.meta_types.specs.Backends.{BackNames, is_named, owns_blob, owns_ingest, blob_stays, ingest_object_stays, snapshot_object_stays}
use Rattle.meta_types.specs.Collected.{content_stays, snapshot_stays, ingest_stays, collected, collected_records}
use Rattle.meta_types.specs.Reports.{Report, Collects}
use Rattle.meta_types.specs.Sound.{parent_of, object_of, HaveBlobs, HaveObjects, IsSound}
use Rattle.meta_types.specs.declared.rows.ContentRow.{ContentRow}
use Rattle.meta_types.specs.declared.rows.IngestRow.{IngestRow}
use Rattle.meta_types.specs.declared.rows.SnapRow.{SnapRow}
use Rattle.meta_types.proofs.Members.{in_filter, any_from, found_by_any}
use Rattle.meta_types.proofs.Filtered.{in_order_filtered}
use Rattle.meta_types.proofs.ListSearches.{all_left}
use Rattle.meta_types.proofs.TablesAfter.{rows_filtered, tables_left}
use Rattle.meta_types.proofs.ObjectsAfter.{object_left, back_parent_left}

module _ (state : State) (at : ℤ) (failed : BackNames) (reached : Thing → Bool) (tells : TellsReached state.records at reached) (s : IsSound state) where
  abbrev old : Tables
  old = state.records.tables

  abbrev new : Tables
  new = (collected_records at reached state.records).tables

  -- the blob of content that stays does
  blob_left : (row : ContentRow) → Contains old.content row → content_stays reached row ≡ true → list_any (bytes_eq row.digest) (filter (blob_stays new failed) state.backends.blobs) ≡ true
  blob_left row c h =
      let held = All-contains (λ (r : ContentRow). IsTrue (list_any (bytes_eq r.digest) state.backends.blobs)) old.content row s.stored.held c in
      let found = found_by_any (bytes_eq row.digest) state.backends.blobs held in
      let own : owns_blob new found.0 ≡ true = any_from (λ r. bytes_eq r.digest found.0) new.content row (in_filter (content_stays reached) old.content row c h) found.2 in
      any_from (bytes_eq row.digest) (filter (blob_stays new failed) state.backends.blobs) found.0
      (in_filter (blob_stays new failed) state.backends.blobs found.0 found.1 (or_left (owns_blob new found.0) (list_any (bytes_eq found.0) failed.blobs) own)) found.2

  -- the object of an ingest that stays does
  begun_left : (row : IngestRow) → Contains old.ingests row → ingest_stays reached row ≡ true → list_any (λ number. number == row.number) (filter (ingest_object_stays new failed) state.backends.ingests) ≡ true
  begun_left row c h =
      let begun = All-contains (λ (r : IngestRow). IsTrue (list_any (λ number. number == r.number) state.backends.ingests)) old.ingests row s.backed.ingests_begun c in
      let found = found_by_any (λ number. number == row.number) state.backends.ingests begun in
      let same = (Decides-eqb row.number found.0).1 (sym ((Decides-eqb found.0 row.number).0 found.2)) in
      let own : owns_ingest new found.0 ≡ true = any_from (λ r. r.number == found.0) new.ingests row (in_filter (ingest_stays reached) old.ingests row c h) same in
      any_from (λ number. number == row.number) (filter (ingest_object_stays new failed) state.backends.ingests) found.0
      (in_filter (ingest_object_stays new failed) state.backends.ingests found.0 found.1 (or_left (owns_ingest new found.0) (list_any (λ other. other == found.0) failed.ingests) own)) found.2

  -- blobs: the row's own, and a filter of a list in order
  stored_left : HaveBlobs new.content (filter (blob_stays new failed) state.backends.blobs)
  stored_left = record {
    held = all_left (λ (row : ContentRow). IsTrue (list_any (bytes_eq row.digest) (filter (blob_stays new failed) state.backends.blobs))) (content_stays reached) old.content blob_left;
    in_order = in_order_filtered namespace_key (blob_stays new failed) state.backends.blobs s.stored.in_order;
  }

  abbrev shards : List BackSnap
  shards = filter (snapshot_object_stays new state.backends.snapshots failed) state.backends.snapshots

  -- objects: numbers and orders of a filter, and the rows' own
  backed_left : HaveObjects new.snapshots new.ingests state.records.next shards (filter (ingest_object_stays new failed) state.backends.ingests)
  backed_left = record {
    snapshots_below = All-filter (snapshot_stays reached) (λ (row : SnapRow). row.number < state.records.next) old.snapshots s.backed.snapshots_below;
    ingests_below = All-filter (ingest_stays reached) (λ (row : IngestRow). row.number < state.records.next) old.ingests s.backed.ingests_below;
    objects_below = All-filter (snapshot_object_stays new state.backends.snapshots failed) (λ (snap : BackSnap). snap.number < state.records.next) state.backends.snapshots s.backed.objects_below;
    begun_below = All-filter (ingest_object_stays new failed) (λ (number : ℕ). number < state.records.next) state.backends.ingests s.backed.begun_below;
    ingests_begun = all_left (λ (row : IngestRow). IsTrue (list_any (λ number. number == row.number) (filter (ingest_object_stays new failed) state.backends.ingests))) (ingest_stays reached) old.ingests begun_left;
    objects = all_left (λ (row : SnapRow). object_of shards row.key.snapshotter row.number
        ≡ Some (record { snapshotter = row.key.snapshotter; number = row.number; parent = option_map_or (λ (above : SnapRow). Some above.number) (parent_of new.snapshots row) None }))
        (snapshot_stays reached) old.snapshots (object_left state at failed reached tells s);
    back_parents = all_left (λ (snap : BackSnap). IfSome snap.parent (λ number. IsTrue (list_any (is_named (snap.snapshotter, number)) shards) × (number < snap.number)))
        (snapshot_object_stays new state.backends.snapshots failed) state.backends.snapshots (back_parent_left state at failed reached tells s);
    objects_in_order = AllPairs-filter (λ a b. IsTrue (stands_before a b)) (snapshot_object_stays new state.backends.snapshots failed) state.backends.snapshots s.backed.objects_in_order;
    begun_in_order = AllPairs-filter (λ (a : ℕ) (b : ℕ). a < b) (ingest_object_stays new failed) state.backends.ingests s.backed.begun_in_order;
  }

  -- all of it
  sound_left : IsSound (collected state at reached failed)
  sound_left = record {
    tables = tables_left state.records at reached tells s.tables;
    leases = rows_filtered lease_key (λ (row : LeaseRow). row.ns) (lease_stays at) old.namespaces state.records.leases s.leases;
    stored = stored_left;
    backed = backed_left;
  }

-- what is left is what the definition computes
pub a_collected_store_is_sound : (state : State) (at : ℤ) (failed : BackNames) (report : Report) (new : State) → IsSound state → Collects state at failed report new → IsSound new
a_collected_store_is_sound state at failed report after s c = subst IsSound (sym c.state_is) (sound_left state at failed c.reached c.tells s)
