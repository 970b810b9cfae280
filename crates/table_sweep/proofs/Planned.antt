-- What masks give is what a report says.
use Rattle.std.proofs.Common.{◌≡◌, ℕ, Bool, List, map, filter, length, ap, ◌∙◌, ℤ, not}
use Rattle.std.proofs.lemmas.List.{length-map}
use Rattle.meta_types.specs.Rows.{Records, LeaseRow}
use Rattle.meta_types.specs.Paths.{Thing, image_stays, lease_stays}
use Rattle.meta_types.specs.Collected.{content_stays, snapshot_stays, ingest_stays, collected_records}
use Rattle.meta_types.specs.Reports.{removed_of, kept_of}
use Rattle.meta_types.specs.declared.rows.ImageRow.{ImageRow}
use Rattle.meta_types.specs.declared.rows.ContentRow.{ContentRow}
use Rattle.meta_types.specs.declared.rows.IngestRow.{IngestRow}
use Rattle.meta_types.specs.declared.rows.SnapRow.{SnapRow}
use Rattle.object_tables.specs.Calls.{kept}
use Rattle.table_sweep.specs.declared.masks.Masks.{Masks}
use Rattle.table_sweep.specs.Masks.{gone}
use Rattle.table_sweep.specs.Stays.{AreMasks, FitRows, gone_names, kept_counts}
use Rattle.table_sweep.specs.Backed.{left_by}
use Rattle.table_sweep.proofs.MasksFilter.{kept_is, gone_is}
use Rattle.table_sweep.proofs.Counted.{count_of}

gone_by : {Row Name : Type 0} (name : Row → Name) (stays : Row → Bool) (rows : List Row) (mask : List Bool) → mask ≡ map stays rows → map name (gone mask rows) ≡ map name (filter (λ row. not (stays row)) rows)
gone_by name stays rows mask is = ap (map name) (ap (λ m. gone m rows) is ∙ gone_is stays rows)

-- by a mask that tells what a test does, the rows are kept that pass it
pub kept_by : {Row : Type 0} (stays : Row → Bool) (rows : List Row) (mask : List Bool) → mask ≡ map stays rows → kept mask rows ≡ filter stays rows
kept_by stays rows mask is = ap (λ m. kept m rows) is ∙ kept_is stays rows

module _ (records : Records) (at : ℤ) (reached : Thing → Bool) (masks : Masks) (are : AreMasks records at reached masks) where
  -- each mask is as long as its kind has rows
  pub fit : FitRows records.tables records.leases masks
  fit = record {
    images = ap length are.images ∙ length-map records.tables.images (image_stays records.profile at);
    leases = ap length are.leases ∙ length-map records.leases (lease_stays at);
    ingests = ap length are.ingests ∙ length-map records.tables.ingests (ingest_stays reached);
    content = ap length are.content ∙ length-map records.tables.content (content_stays reached);
    snapshots = ap length are.snapshots ∙ length-map records.tables.snapshots (snapshot_stays reached);
  }

  pub removed_is : gone_names records masks ≡ removed_of at reached records
  removed_is = λ i. record {
    content = gone_by (λ (row : ContentRow). (row.ns, row.digest)) (content_stays reached) records.tables.content masks.content.items are.content i;
    images = gone_by (λ (row : ImageRow). (row.ns, row.name)) (image_stays records.profile at) records.tables.images masks.images.items are.images i;
    ingests = gone_by (λ (row : IngestRow). (row.ns, row.name)) (ingest_stays reached) records.tables.ingests masks.ingests.items are.ingests i;
    leases = gone_by (λ (row : LeaseRow). (row.ns, row.id)) (lease_stays at) records.leases masks.leases.items are.leases i;
    snapshots = gone_by (λ (row : SnapRow). (row.key.ns, row.key.snapshotter, row.key.name)) (snapshot_stays reached) records.tables.snapshots masks.snapshots.items are.snapshots i;
  }

  pub kept_counts_are : (namespaces : ℕ) → kept_counts records masks namespaces ≡ record (kept_of (collected_records at reached records)) { namespaces = namespaces }
  kept_counts_are namespaces = λ i. record {
    containers = length records.tables.containers;
    content = count_of (content_stays reached) records.tables.content masks.content.items are.content i;
    images = count_of (image_stays records.profile at) records.tables.images masks.images.items are.images i;
    ingests = count_of (ingest_stays reached) records.tables.ingests masks.ingests.items are.ingests i;
    leases = count_of (lease_stays at) records.leases masks.leases.items are.leases i;
    namespaces = namespaces;
    snapshots = count_of (snapshot_stays reached) records.tables.snapshots masks.snapshots.items are.snapshots i;
  }

  pub left_is : left_by records masks ≡ (collected_records at reached records).tables
  left_is = λ i. record records.tables {
    images = kept_by (image_stays records.profile at) records.tables.images masks.images.items are.images i;
    content = kept_by (content_stays reached) records.tables.content masks.content.items are.content i;
    ingests = kept_by (ingest_stays reached) records.tables.ingests masks.ingests.items are.ingests i;
    snapshots = kept_by (snapshot_stays reached) records.tables.snapshots masks.snapshots.items are.snapshots i;
  }
