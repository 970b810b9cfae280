-- What a collection promises, whatever its algorithm. Each statement is the contract of a function
-- of the module `laws`. Ours, unless a source stands beside.
use Rattle.std.specs.Prelude.{◌≡◌, Bool, true, false, ℤ, Contains, bytes_eq, ℕ, List, ◌==◌, map, filter, []}
use Rattle.std.specs.List.{list_any}
use Rattle.meta_types.specs.Text.{Text}
use Rattle.meta_types.specs.Rows.{Records, State, BackSnap}
use Rattle.meta_types.specs.Paths.{Thing, ingest, content, snapshot, IsReached, TellsReached}
use Rattle.meta_types.specs.Finding.{reached_in}
use Rattle.meta_types.specs.Backends.{BackNames, owns_blob, owns_snapshot, owns_ingest, is_named, is_ancestor_of_one, object_name, no_objects}
use Rattle.meta_types.specs.Reports.{Report, Collects, Plans, Removed}
use Rattle.meta_types.specs.Sound.{IsSound, IsChildfirst}
use Rattle.meta_types.specs.declared.rows.ContentRow.{ContentRow}
use Rattle.meta_types.specs.declared.rows.IngestRow.{IngestRow}
use Rattle.meta_types.specs.declared.rows.SnapRow.{SnapRow}
use Rattle.meta_types.specs.declared.resource.Mode.{Mode}

-- ---- one outcome

-- for each store and moment some test tells where paths end
abbrev pub SomeTestTells : Type 0
SomeTestTells = (records : Records) (at : ℤ) → (reached : Thing → Bool) × TellsReached records at reached

-- the computed test `reached_in` tells where paths end, for each store and moment
abbrev pub ThisTestTells : Type 0
ThisTestTells = (records : Records) (at : ℤ) → TellsReached records at (reached_in records at)

-- two collections of a store at one moment, with the same failures, give one report and leave one
-- store
abbrev pub ACollectionHasOneOutcome : Type 0
ACollectionHasOneOutcome = (state : State) (at : ℤ) (failed : BackNames) (r s : Report) (m n : State) → Collects state at failed r m → Collects state at failed s n → (r ≡ s) × (m ≡ n)

-- two dry runs of a store at one moment give one report
abbrev pub ADryRunHasOneReport : Type 0
ADryRunHasOneReport = (state : State) (at : ℤ) (r s : Report) → Plans state at r → Plans state at s → r ≡ s

-- ---- safety: nothing that an image, a container, an unexpired lease or ingest or a root label
-- leads to is removed

-- A row that a path leads to remains, and isn't reported as removed. A blob stays while a remaining
-- content row, of any namespace, has its digest.
pub record KeepsWhatIsReached (state : State) (at : ℤ) (report : Report) (new : State) : Type 0 where
  pub content_rows : (mode : Mode) (row : ContentRow) → Contains state.records.tables.content row → IsReached state.records at (content mode row)
      → Contains new.records.tables.content row × (Contains report.removed.content (row.ns, row.digest) → ⊥)
  pub snapshot_rows : (mode : Mode) (row : SnapRow) → Contains state.records.tables.snapshots row → IsReached state.records at (snapshot mode row)
      → Contains new.records.tables.snapshots row × (Contains report.removed.snapshots (row.key.ns, row.key.snapshotter, row.key.name) → ⊥)
  pub ingest_rows : (row : IngestRow) → Contains state.records.tables.ingests row → IsReached state.records at (ingest row)
      → Contains new.records.tables.ingests row × (Contains report.removed.ingests (row.ns, row.name) → ⊥)
  pub blobs : (digest : Text) → Contains state.backends.blobs digest → owns_blob new.records.tables digest ≡ true
      → Contains new.backends.blobs digest × (Contains report.backend.blobs digest → ⊥)

-- a collection of a sound store keeps what is reached
abbrev pub NothingReachedIsRemoved : Type 0
NothingReachedIsRemoved = (state : State) (at : ℤ) (failed : BackNames) (report : Report) (new : State) → IsSound state → Collects state at failed report new → KeepsWhatIsReached state at report new

-- ---- liveness: what no path leads to is removed

-- A row that no path leads to is removed, and reported so. A blob is removed when no remaining
-- content row, of any namespace, has its digest, unless its removal failed.
pub record RemovesWhatIsNotReached (state : State) (at : ℤ) (report : Report) (new : State) : Type 0 where
  pub content_rows : (row : ContentRow) → Contains state.records.tables.content row → ((mode : Mode) → IsReached state.records at (content mode row) → ⊥)
      → (Contains new.records.tables.content row → ⊥) × Contains report.removed.content (row.ns, row.digest)
  pub snapshot_rows : (row : SnapRow) → Contains state.records.tables.snapshots row → ((mode : Mode) → IsReached state.records at (snapshot mode row) → ⊥)
      → (Contains new.records.tables.snapshots row → ⊥) × Contains report.removed.snapshots (row.key.ns, row.key.snapshotter, row.key.name)
  pub ingest_rows : (row : IngestRow) → Contains state.records.tables.ingests row → (IsReached state.records at (ingest row) → ⊥)
      → (Contains new.records.tables.ingests row → ⊥) × Contains report.removed.ingests (row.ns, row.name)
  pub blobs : (digest : Text) → Contains state.backends.blobs digest → owns_blob new.records.tables digest ≡ false → list_any (bytes_eq digest) report.failed.blobs ≡ false
      → (Contains new.backends.blobs digest → ⊥) × Contains report.backend.blobs digest

-- a collection removes what isn't reached
abbrev pub WhatIsNotReachedIsRemoved : Type 0
WhatIsNotReachedIsRemoved = (state : State) (at : ℤ) (failed : BackNames) (report : Report) (new : State) → Collects state at failed report new → RemovesWhatIsNotReached state at report new

-- ---- safety: what a row that remains owns isn't removed

-- a backend snapshot, and an ingest's object, stay while a row that remains owns them, and aren't
-- reported as removed
pub record KeepsOwnedObjects (state : State) (report : Report) (new : State) : Type 0 where
  pub snapshots : (snap : BackSnap) → Contains state.backends.snapshots snap → owns_snapshot new.records.tables snap ≡ true
      → Contains new.backends.snapshots snap × (Contains report.backend.snapshots (object_name snap) → ⊥)
  pub ingests : (number : ℕ) → Contains state.backends.ingests number → owns_ingest new.records.tables number ≡ true
      → Contains new.backends.ingests number × (Contains report.backend.ingests number → ⊥)

-- a collection keeps what its rows own
abbrev pub OwnedObjectsStay : Type 0
OwnedObjectsStay = (state : State) (at : ℤ) (failed : BackNames) (report : Report) (new : State) → Collects state at failed report new → KeepsOwnedObjects state report new

-- ---- liveness: what no row that remains owns is removed

-- A backend snapshot and an ingest's object that no remaining row owns
-- are removed, and reported so,
-- unless their removal failed or, of a snapshot, that of a descendant.
pub record RemovesUnownedObjects (state : State) (report : Report) (new : State) : Type 0 where
  pub snapshots : (snap : BackSnap) → Contains state.backends.snapshots snap → owns_snapshot new.records.tables snap ≡ false
      → list_any (λ name. is_named name snap) report.failed.snapshots ≡ false → is_ancestor_of_one state.backends.snapshots report.failed.snapshots snap ≡ false
      → (Contains new.backends.snapshots snap → ⊥) × Contains report.backend.snapshots (object_name snap)
  pub ingests : (number : ℕ) → Contains state.backends.ingests number → owns_ingest new.records.tables number ≡ false → list_any (λ other. other == number) report.failed.ingests ≡ false
      → (Contains new.backends.ingests number → ⊥) × Contains report.backend.ingests number

-- a collection removes what no row owns
abbrev pub UnownedObjectsGo : Type 0
UnownedObjectsGo = (state : State) (at : ℤ) (failed : BackNames) (report : Report) (new : State) → Collects state at failed report new → RemovesUnownedObjects state report new

-- ---- the order of a report

-- the numbers of a snapshotter's names, in their order
abbrev pub numbers_of : Text → List (Text × ℕ) → List ℕ
numbers_of snapshotter names = map (λ name. name.1) (filter (λ name. bytes_eq name.0 snapshotter) names)

-- a snapshotter's snapshots
abbrev pub shard_of : Text → List BackSnap → List BackSnap
shard_of snapshotter snapshots = filter (λ snap. bytes_eq snap.snapshotter snapshotter) snapshots

-- In the report of a collection of a sound store no parent stands before its child, of each
-- snapshotter (containerd snapshots service: children are removed before their parent).
-- No child of a snapshot that it names is left out.
abbrev pub RemovedSnapshotsAreChildfirst : Type 0
RemovedSnapshotsAreChildfirst = (state : State) (at : ℤ) (failed : BackNames) (report : Report) (new : State) (snapshotter : Text) → IsSound state → Collects state at failed report new
    → IsChildfirst (numbers_of snapshotter report.backend.snapshots) (shard_of snapshotter state.backends.snapshots)

-- in the report of a dry run of a sound store no parent stands before its child either, and no
-- child of a snapshot that it names is left out
abbrev pub PlannedSnapshotsAreChildfirst : Type 0
PlannedSnapshotsAreChildfirst = (state : State) (at : ℤ) (report : Report) (snapshotter : Text) → IsSound state → Plans state at report
    → IsChildfirst (numbers_of snapshotter report.backend.snapshots) (shard_of snapshotter state.backends.snapshots)

-- ---- a second collection

-- no row is removed
abbrev pub no_rows : Removed
no_rows = record { content = []; images = []; ingests = []; leases = []; snapshots = [] }

-- A second collection with this report, after a first with that one, leaves the store as it was. It
-- removes no row and no object of the backend, and keeps as many rows as the first.
pub record ChangesNothing (first second : Report) (mid new : State) : Type 0 where
  pub same_store : new ≡ mid
  pub no_row_goes : second.removed ≡ no_rows
  pub no_object_goes : second.backend ≡ no_objects
  pub same_kept : second.kept ≡ first.kept

-- where no removal of a first collection failed, a second one at the same moment changes nothing;
-- it removes nothing, so none of its removals can fail
abbrev pub ASecondCollectionChangesNothing : Type 0
ASecondCollectionChangesNothing = (state : State) (at : ℤ) (failed : BackNames) (first second : Report) (mid new : State) → Collects state at no_objects first mid → Collects mid at failed second new → ChangesNothing first second mid new

-- ---- a store after a collection

-- a collection of a sound store leaves a sound store, whatever removals failed
abbrev pub ACollectedStoreIsSound : Type 0
ACollectedStoreIsSound = (state : State) (at : ℤ) (failed : BackNames) (report : Report) (new : State) → IsSound state → Collects state at failed report new → IsSound new
