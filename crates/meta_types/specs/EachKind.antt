-- What a collection does to each kind of rows and objects, as an operator reads it: which stay,
-- which are removed and named, and what the report counts. Each statement is the contract of a
-- function of the module `laws`. Ours, unless a source stands beside.
use Rattle.std.specs.Prelude.{◌≡◌, ◌↔◌, ℕ, Bool, true, false, List, ℤ, Contains, IsTrue}
use Rattle.meta_types.specs.Text.{Text}
use Rattle.meta_types.specs.Rows.{LeaseRow, State, BackSnap}
use Rattle.meta_types.specs.Paths.{Thing, ingest, content, snapshot, image_stays, lease_stays, IsReached, TellsReached}
use Rattle.meta_types.specs.Backends.{BackNames, no_objects, owns_blob, owns_snapshot, owns_ingest, object_name}
use Rattle.meta_types.specs.Reports.{Report, Collects, Plans, kept_of, scanned_of, ignored_of, ignored_images_of}
use Rattle.meta_types.specs.Sound.{IsSound}
use Rattle.meta_types.specs.declared.rows.ImageRow.{ImageRow}
use Rattle.meta_types.specs.declared.rows.ContentRow.{ContentRow}
use Rattle.meta_types.specs.declared.rows.IngestRow.{IngestRow}
use Rattle.meta_types.specs.declared.rows.SnapRow.{SnapRow}
use Rattle.meta_types.specs.declared.resource.Mode.{Mode}

-- Exactly the old rows that stay are left. The names are exactly those of the other old rows;
-- no row that is left has one of them.
pub record Divides {Row Name : Type 0} (name_of : Row → Name) (Stays : Row → Type 0) (old left : List Row) (gone : List Name) : Type 0 where
  pub kept : (row : Row) → Contains left row ↔ (Contains old row × Stays row)
  pub named : (name : Name) → Contains gone name ↔ ((row : Row) × Contains old row × (Stays row → ⊥) × (name_of row ≡ name))
  pub apart : (row : Row) → Contains left row → Contains gone (name_of row) → ⊥

-- Content, snapshots and ingests stay exactly where a path of references leads to them (containerd
-- garbage-collection.md).
-- Images and leases stay up to their expiry (images in profile 2), containers and
-- namespaces always. The report names the removed rows, and counts those that stay
-- and those that paths lead to.
pub record CollectsRows (state : State) (at : ℤ) (report : Report) (left : State) : Type 0 where
  pub content : Divides (λ (row : ContentRow). (row.ns, row.digest)) (λ (row : ContentRow). (mode : Mode) × IsReached state.records at (content mode row)) state.records.tables.content left.records.tables.content report.removed.content
  pub snapshots : Divides (λ (row : SnapRow). (row.key.ns, row.key.snapshotter, row.key.name)) (λ (row : SnapRow). (mode : Mode) × IsReached state.records at (snapshot mode row)) state.records.tables.snapshots left.records.tables.snapshots report.removed.snapshots
  pub ingests : Divides (λ (row : IngestRow). (row.ns, row.name)) (λ (row : IngestRow). IsReached state.records at (ingest row)) state.records.tables.ingests left.records.tables.ingests report.removed.ingests
  pub images : Divides (λ (row : ImageRow). (row.ns, row.name)) (λ (row : ImageRow). IsTrue (image_stays state.records.profile at row)) state.records.tables.images left.records.tables.images report.removed.images
  pub leases : Divides (λ (row : LeaseRow). (row.ns, row.id)) (λ (row : LeaseRow). IsTrue (lease_stays at row)) state.records.leases left.records.leases report.removed.leases
  pub containers : left.records.tables.containers ≡ state.records.tables.containers
  pub namespaces : left.records.tables.namespaces ≡ state.records.tables.namespaces
  pub next : left.records.next ≡ state.records.next
  pub profile : (left.records.profile ≡ state.records.profile) × (report.profile ≡ state.records.profile)
  pub counted : report.kept ≡ kept_of left.records
  pub scanned : (reached : Thing → Bool) → TellsReached state.records at reached → report.scanned ≡ scanned_of reached state.records
  pub ignored : (report.ignored ≡ ignored_of state.records) × (report.ignored_images ≡ ignored_images_of state.records)

-- where nothing failed, an object of the backend stays exactly while a row that is left owns it,
-- and the report names the others (containerd content-flow.md, snapshots service)
pub record CollectsObjects (state : State) (report : Report) (left : State) : Type 0 where
  pub blobs : Divides (λ (digest : Text). digest) (λ (digest : Text). IsTrue (owns_blob left.records.tables digest)) state.backends.blobs left.backends.blobs report.backend.blobs
  pub snapshots : Divides object_name (λ (snap : BackSnap). IsTrue (owns_snapshot left.records.tables snap)) state.backends.snapshots left.backends.snapshots report.backend.snapshots
  pub ingests : Divides (λ (number : ℕ). number) (λ (number : ℕ). IsTrue (owns_ingest left.records.tables number)) state.backends.ingests left.backends.ingests report.backend.ingests
  pub none_failed : report.failed ≡ no_objects

-- this report and the store that is left are those of a collection in which nothing failed
pub record IsCollected (state : State) (at : ℤ) (dry : Bool) (report : Report) (left : State) : Type 0 where
  pub rows : CollectsRows state at report left
  pub objects : CollectsObjects state report left
  pub is_dry : report.dry ≡ dry

-- ---- as promises

-- a collection of a sound store divides the rows so, whatever removals failed
abbrev pub ACollectionDividesTheRows : Type 0
ACollectionDividesTheRows = (state : State) (at : ℤ) (failed : BackNames) (report : Report) (new : State) → IsSound state → Collects state at failed report new → CollectsRows state at report new

-- if no removal failed, a collection of a sound store divides the objects so, too
abbrev pub ACollectionDividesAll : Type 0
ACollectionDividesAll = (state : State) (at : ℤ) (report : Report) (new : State) → IsSound state → Collects state at no_objects report new → IsCollected state at false report new

-- a dry run of a sound store reports what a collection would do
abbrev pub ADryRunTellsWhatACollectionWould : Type 0
ADryRunTellsWhatACollectionWould = (state : State) (at : ℤ) (report : Report) → IsSound state → Plans state at report → (left : State) × IsCollected state at true report left
