-- Records as they arrived, and in the order of keys: what a report says is the same of both.
use Rattle.std.proofs.Common.{◌≡◌, ◌+◌, ℕ, Bool, false, List, map, filter, refl, sym, ◌∙◌, ℤ, not, if◌then◌else◌}
use Rattle.std.specs.Prelude.{Contains, ◌↔◌, ◌&&◌, ◌||◌, ◌==◌, ◌*◌, nat_lt, bytes_eq}
use Rattle.std.specs.List.{list_any}
use Rattle.std.specs.List.Sorted.{IsPermutation}
use Rattle.std.proofs.lemmas.List.Sums.{length-filter}
use Rattle.std.proofs.lemmas.List.Sorted.{IsPermutation-append, IsPermutation-map, IsPermutation-sym, Contains-permutation, sum_by-IsPermutation}
use Rattle.meta_types.specs.Keys.{Key, in_order}
use Rattle.meta_types.specs.Limits.{is_too_large}
use Rattle.meta_types.specs.declared.limits.TheConstants.{MAX_NODES}
use Rattle.meta_types.specs.CollectorLabels.{is_unreadable}
use Rattle.meta_types.specs.Rows.{Records, Tables, BackLists, LeaseRow, image_key, container_key, content_key, ingest_key, snap_key, lease_key}
use Rattle.meta_types.specs.Paths.{Thing, image, container, lease, ingest, content, snapshot, things, in_both_modes, image_stays, lease_stays, images_expire, TellsReached}
use Rattle.meta_types.specs.Collected.{content_stays, snapshot_stays, ingest_stays, collected_tables, collected_records}
use Rattle.meta_types.specs.Backends.{no_objects, removed_objects, goes_before, object_name, is_named, is_ancestor_of_one}
use Rattle.meta_types.specs.Reports.{removed_of, kept_of, ignored_of, ignored_images_of, scanned_of, is_scanned}
use Rattle.meta_types.specs.declared.rows.ImageRow.{ImageRow}
use Rattle.meta_types.specs.declared.rows.ContentRow.{ContentRow}
use Rattle.meta_types.specs.declared.rows.IngestRow.{IngestRow}
use Rattle.meta_types.specs.declared.rows.SnapRow.{SnapRow}
use Rattle.meta_types.specs.declared.resource.Mode.{Mode}
use Rattle.meta_types.specs.declared.resource.Mode.TheVariants.{Full, Flat}
use Rattle.row_tables.specs.Arrived.{sorted}
use Rattle.row_tables.proofs.KeysOnce.{same_members}
use Rattle.row_tables.proofs.Arrivals.{length_sorted}
use Rattle.object_tables.specs.InKeyOrder.{in_key_order}
use Rattle.gc_graph.proofs.Orders.{told_in_any_order}
use Rattle.table_sweep.specs.InKeyOrder.{records_in_key_order, names_in_key_order, name_key, snapshot_name_key}
use Rattle.table_sweep.proofs.SortedRows.{sorted_filter, as_many, any_sorted, names_kept}

-- ---- tables

-- what a collection leaves of tables in order is what it leaves, in order
pub tables_left : (reached : Thing → Bool) (profile : ℕ) (at : ℤ) (tables : Tables)
    → in_key_order (collected_tables reached profile at tables) ≡ collected_tables reached profile at (in_key_order tables)
tables_left reached profile at tables = λ i. record {
  namespaces = tables.namespaces;
  images = sorted_filter image_key (image_stays profile at) tables.images i;
  containers = sorted container_key tables.containers;
  content = sorted_filter content_key (content_stays reached) tables.content i;
  ingests = sorted_filter ingest_key (ingest_stays reached) tables.ingests i;
  snapshots = sorted_filter snap_key (snapshot_stays reached) tables.snapshots i;
}

pub leases_left : (at : ℤ) (leases : List LeaseRow)
    → sorted lease_key (filter (lease_stays at) leases) ≡ filter (lease_stays at) (sorted lease_key leases)
leases_left at leases = sorted_filter lease_key (lease_stays at) leases

-- tables own the same objects
pub objects_same : (tables : Tables) (back : BackLists)
    → removed_objects tables no_objects back ≡ removed_objects (in_key_order tables) no_objects back
objects_same tables back = λ i. record {
  blobs = filter (λ digest. not (sym (any_sorted content_key (λ row. bytes_eq row.digest digest) tables.content) i || false)) back.blobs;
  ingests = filter (λ number. not (sym (any_sorted ingest_key (λ row. row.number == number) tables.ingests) i || false)) back.ingests;
  snapshots = map object_name (in_order (goes_before back.snapshots) (filter (λ snap. not (sym (any_sorted snap_key (λ row. bytes_eq row.key.snapshotter snap.snapshotter && row.number == snap.number) tables.snapshots) i
      || list_any (λ name. is_named name snap) no_objects.snapshots || is_ancestor_of_one back.snapshots no_objects.snapshots snap)) back.snapshots));
}

-- ---- records

module _ (arrived : Records) where
  abbrev ordered : Records
  ordered = records_in_key_order arrived

  both_moved : {Row : Type 0} (key_of : Row → Key) (thing : Mode → Row → Thing) (rows : List Row)
      → IsPermutation (in_both_modes thing rows) (in_both_modes thing (sorted key_of rows))
  both_moved key_of thing rows = IsPermutation-append (map (thing Full) rows) (map (thing Full) (sorted key_of rows)) (map (thing Flat) rows) (map (thing Flat) (sorted key_of rows))
      (IsPermutation-map (thing Full) rows (sorted key_of rows) (same_members key_of rows)) (IsPermutation-map (thing Flat) rows (sorted key_of rows) (same_members key_of rows))

  moved : {Row : Type 0} (key_of : Row → Key) (thing : Row → Thing) (rows : List Row)
      → IsPermutation (map thing rows) (map thing (sorted key_of rows))
  moved key_of thing rows = IsPermutation-map thing rows (sorted key_of rows) (same_members key_of rows)

  -- the things are the same
  same_things : IsPermutation (things arrived) (things ordered)
  same_things =
      IsPermutation-append _ _ _ _
      (IsPermutation-append _ _ _ _
      (IsPermutation-append _ _ _ _
      (IsPermutation-append _ _ _ _
      (IsPermutation-append _ _ _ _ (moved image_key image arrived.tables.images) (moved container_key container arrived.tables.containers))
      (moved lease_key lease arrived.leases))
      (moved ingest_key ingest arrived.tables.ingests))
      (both_moved content_key content arrived.tables.content))
      (both_moved snap_key snapshot arrived.tables.snapshots)

  same_thing : (thing : Thing) → Contains (things arrived) thing ↔ Contains (things ordered) thing
  same_thing thing = (
    Contains-permutation (things arrived) (things ordered) thing same_things,
    Contains-permutation (things ordered) (things arrived) thing (IsPermutation-sym (things arrived) (things ordered) same_things),
  )

  module _ (at : ℤ) (reached : Thing → Bool) where
    -- a test that tells where paths end tells it whatever the order is
    pub told_in_order : TellsReached arrived at reached → TellsReached ordered at reached
    told_in_order = told_in_any_order arrived ordered at reached refl same_thing

    pub removed_in_order : names_in_key_order (removed_of at reached arrived) ≡ removed_of at reached ordered
    removed_in_order = λ i. record {
      content = names_kept (λ (row : ContentRow). (row.ns, row.digest)) name_key (λ row. not (content_stays reached row)) arrived.tables.content i;
      images = names_kept (λ (row : ImageRow). (row.ns, row.name)) name_key (λ row. not (image_stays arrived.profile at row)) arrived.tables.images i;
      ingests = names_kept (λ (row : IngestRow). (row.ns, row.name)) name_key (λ row. not (ingest_stays reached row)) arrived.tables.ingests i;
      leases = names_kept (λ (row : LeaseRow). (row.ns, row.id)) name_key (λ row. not (lease_stays at row)) arrived.leases i;
      snapshots = names_kept (λ (row : SnapRow). (row.key.ns, row.key.snapshotter, row.key.name)) snapshot_name_key (λ row. not (snapshot_stays reached row)) arrived.tables.snapshots i;
    }

    pub kept_in_order : (namespaces : ℕ) → record (kept_of (collected_records at reached arrived)) { namespaces = namespaces } ≡ record (kept_of (collected_records at reached ordered)) { namespaces = namespaces }
    kept_in_order namespaces = λ i. record {
      containers = sym (length_sorted container_key arrived.tables.containers) i;
      content = as_many content_key (content_stays reached) arrived.tables.content i;
      images = as_many image_key (image_stays arrived.profile at) arrived.tables.images i;
      ingests = as_many ingest_key (ingest_stays reached) arrived.tables.ingests i;
      leases = as_many lease_key (lease_stays at) arrived.leases i;
      namespaces = namespaces;
      snapshots = as_many snap_key (snapshot_stays reached) arrived.tables.snapshots i;
    }

    pub scanned_in_order : scanned_of reached arrived ≡ scanned_of reached ordered
    scanned_in_order =
        let scanned : Thing → Bool = λ thing. is_scanned thing && reached thing in
        length-filter scanned (things arrived)
        ∙ sym (sum_by-IsPermutation (λ thing. if scanned thing then 1 else 0) (things arrived) (things ordered) same_things)
        ∙ sym (length-filter scanned (things ordered))

  pub ignored_in_order : sorted name_key (ignored_of arrived) ≡ ignored_of ordered
  ignored_in_order = names_kept (λ (row : LeaseRow). (row.ns, row.id)) name_key (λ row. is_unreadable row.labels) arrived.leases

  pub ignored_images_in_order : sorted name_key (ignored_images_of arrived) ≡ ignored_images_of ordered
  ignored_images_in_order = names_kept (λ (row : ImageRow). (row.ns, row.name)) name_key (λ row. images_expire arrived.profile && is_unreadable row.labels) arrived.tables.images

  -- they are as many
  pub as_large : is_too_large ordered ≡ is_too_large arrived
  as_large = λ i. nat_lt MAX_NODES (2 * (length_sorted content_key arrived.tables.content i + length_sorted snap_key arrived.tables.snapshots i) + length_sorted ingest_key arrived.tables.ingests i)
