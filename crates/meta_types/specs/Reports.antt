-- What a collection reports, and when a store and a report are those of a collection. Ours, unless
-- a source stands beside.
use Rattle.std.specs.Prelude.{◌≡◌, ℕ, Bool, true, false, not, ◌&&◌, List, map, length, filter, ℤ}
use Rattle.meta_types.specs.Text.{Text}
use Rattle.meta_types.specs.CollectorLabels.{is_unreadable}
use Rattle.meta_types.specs.Rows.{Records, State}
use Rattle.meta_types.specs.Paths.{Thing, ingest, content, snapshot, things, image_stays, lease_stays, images_expire, TellsReached}
use Rattle.meta_types.specs.Backends.{BackNames, no_objects, removed_objects, IsFailure}
use Rattle.meta_types.specs.Collected.{content_stays, snapshot_stays, ingest_stays, collected_records, collected}

-- how many rows of each kind remain
pub record Kept : Type 0 where
  pub containers : ℕ
  pub content : ℕ
  pub images : ℕ
  pub ingests : ℕ
  pub leases : ℕ
  pub namespaces : ℕ
  pub snapshots : ℕ

-- the names of the removed rows, by namespace; images are removed in profile 2 alone
pub record Removed : Type 0 where
  pub content : List (Text × Text)
  pub images : List (Text × Text)
  pub ingests : List (Text × Text)
  pub leases : List (Text × Text)
  pub snapshots : List (Text × Text × Text)

-- a report; its text has the lists of images in profile 2 alone
pub record Report : Type 0 where
  pub backend : BackNames
  pub dry : Bool
  pub failed : BackNames
  pub ignored : List (Text × Text)
  pub ignored_images : List (Text × Text)
  pub kept : Kept
  pub profile : ℕ
  pub removed : Removed
  pub scanned : ℕ

-- ---- its members

abbrev pub kept_of : Records → Kept
kept_of records = record {
  containers = length records.tables.containers;
  content = length records.tables.content;
  images = length records.tables.images;
  ingests = length records.tables.ingests;
  leases = length records.leases;
  namespaces = length records.tables.namespaces;
  snapshots = length records.tables.snapshots;
}

-- the rows that don't stay
abbrev pub removed_of : ℤ → (Thing → Bool) → Records → Removed
removed_of at reached records = record {
  content = map (λ row. (row.ns, row.digest)) (filter (λ row. not (content_stays reached row)) records.tables.content);
  images = map (λ row. (row.ns, row.name)) (filter (λ row. not (image_stays records.profile at row)) records.tables.images);
  ingests = map (λ row. (row.ns, row.name)) (filter (λ row. not (ingest_stays reached row)) records.tables.ingests);
  leases = map (λ row. (row.ns, row.id)) (filter (λ row. not (lease_stays at row)) records.leases);
  snapshots = map (λ row. (row.key.ns, row.key.snapshotter, row.key.name)) (filter (λ row. not (snapshot_stays reached row)) records.tables.snapshots);
}

-- the leases whose expiry can't be read
abbrev pub ignored_of : Records → List (Text × Text)
ignored_of records = map (λ row. (row.ns, row.id)) (filter (λ row. is_unreadable row.labels) records.leases)

-- the images whose expiry can't be read, in the profile that reads it
abbrev pub ignored_images_of : Records → List (Text × Text)
ignored_images_of records = map (λ row. (row.ns, row.name)) (filter (λ row. images_expire records.profile && is_unreadable row.labels) records.tables.images)

-- content and snapshots in a mode, and ingests, are scanned
abbrev pub is_scanned : Thing → Bool
is_scanned (content mode row) = true
is_scanned (snapshot mode row) = true
is_scanned (ingest row) = true
is_scanned _ = false

-- in how many scanned things a path ends
abbrev pub scanned_of : (Thing → Bool) → Records → ℕ
scanned_of reached records = length (filter (λ thing. is_scanned thing && reached thing) (things records))

-- the report of a collection, or of a dry run, at this moment with these failures
abbrev pub report_of : State → ℤ → (Thing → Bool) → BackNames → Bool → Report
report_of state at reached failed dry =
    let left = collected_records at reached state.records in
    record {
      backend = removed_objects left.tables failed state.backends;
      dry = dry;
      failed = failed;
      ignored = ignored_of state.records;
      ignored_images = ignored_images_of state.records;
      kept = kept_of left;
      profile = state.records.profile;
      removed = removed_of at reached state.records;
      scanned = scanned_of reached state.records;
    }

-- ---- collections, with no word of how the paths are found

-- a collection at this moment, with these failures, gives this report and leaves this store
pub record Collects (state : State) (at : ℤ) (failed : BackNames) (report : Report) (new : State) : Type 0 where
  pub reached : Thing → Bool
  pub tells : TellsReached state.records at reached
  pub may_fail : IsFailure (collected_records at reached state.records).tables state.backends failed
  pub state_is : new ≡ collected state at reached failed
  pub report_is : report ≡ report_of state at reached failed false

-- a dry run at this moment gives this report: that of a collection without a failure
pub record Plans (state : State) (at : ℤ) (report : Report) : Type 0 where
  pub reached : Thing → Bool
  pub tells : TellsReached state.records at reached
  pub report_is : report ≡ report_of state at reached no_objects true
