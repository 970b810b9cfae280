-- What a collection leaves (containerd garbage-collection.md; failures: ours).
use Rattle.std.specs.Prelude.{ℕ, Bool, ◌||◌, filter, ℤ}
use Rattle.meta_types.specs.Rows.{Tables, Records, State}
use Rattle.meta_types.specs.Paths.{Thing, ingest, content, snapshot, image_stays, lease_stays}
use Rattle.meta_types.specs.Backends.{BackNames, collected_backends}
use Rattle.meta_types.specs.declared.rows.ContentRow.{ContentRow}
use Rattle.meta_types.specs.declared.rows.IngestRow.{IngestRow}
use Rattle.meta_types.specs.declared.rows.SnapRow.{SnapRow}
use Rattle.meta_types.specs.declared.resource.Mode.TheVariants.{Full, Flat}

module _ (reached : Thing → Bool) where
  -- content stays where a path ends in it, in either mode
  abbrev pub content_stays : ContentRow → Bool
  content_stays row = reached (content Full row) || reached (content Flat row)

  -- a snapshot stays where a path ends in it, in either mode
  abbrev pub snapshot_stays : SnapRow → Bool
  snapshot_stays row = reached (snapshot Full row) || reached (snapshot Flat row)

  -- an ingest, which has one mode, stays where a path ends in it
  abbrev pub ingest_stays : IngestRow → Bool
  ingest_stays row = reached (ingest row)

  -- all namespaces and containers; of images, content, ingests and snapshots, the rows that stay
  abbrev pub collected_tables : ℕ → ℤ → Tables → Tables
  collected_tables profile at tables = record tables {
    images = filter (image_stays profile at) tables.images;
    content = filter content_stays tables.content;
    ingests = filter ingest_stays tables.ingests;
    snapshots = filter snapshot_stays tables.snapshots;
  }

-- leases stay until their expiry
abbrev pub collected_records : ℤ → (Thing → Bool) → Records → Records
collected_records at reached records = record records {
  tables = collected_tables reached records.profile at records.tables;
  leases = filter (lease_stays at) records.leases;
}

-- the store that a collection at this moment leaves, with these failures
abbrev pub collected : State → ℤ → (Thing → Bool) → BackNames → State
collected state at reached failed =
    let left = collected_records at reached state.records in
    record { records = left; backends = collected_backends left.tables failed state.backends }
