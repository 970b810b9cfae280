-- Which stores are sound: what every request and every collection keeps. Ours,
-- unless a source stands beside.
use Rattle.std.specs.Prelude.{◌≡◌, ℕ, ◌<◌, not, ◌==◌, List, Option, Some, None, bytes_eq, IsTrue, IfSome, All, Contains, AllPairs, find}
use Rattle.std.specs.List.{list_any}
use Rattle.std.specs.Option.{option_map_or}
use Rattle.meta_types.specs.Text.{Text}
use Rattle.meta_types.specs.Keys.{Key, are_in_order}
use Rattle.meta_types.specs.Rows.{Tables, BackSnap, State, LeaseRow, image_key, container_key, content_key, ingest_key, snap_key, lease_key, namespace_key}
use Rattle.meta_types.specs.Changes.{stands_before}
use Rattle.meta_types.specs.Ops.Snapshots.{is_committed, parent_row}
use Rattle.meta_types.specs.Backends.{is_named}
use Rattle.meta_types.specs.declared.rows.ImageRow.{ImageRow}
use Rattle.meta_types.specs.declared.rows.ContainerRow.{ContainerRow}
use Rattle.meta_types.specs.declared.rows.ContentRow.{ContentRow}
use Rattle.meta_types.specs.declared.rows.SnapRow.{SnapRow}
use Rattle.meta_types.specs.declared.rows.IngestRow.{IngestRow}

-- ---- rows

-- rows stand in the order of their keys, so no key stands twice; each is in a namespace that is
-- there (containerd namespaces.md)
pub record AreRows {Row : Type 0} (key_of : Row → Key) (ns_of : Row → Text) (namespaces : List Text) (rows : List Row) : Type 0 where
  pub in_order : IsTrue (are_in_order key_of rows)
  pub named : All (λ row. IsTrue (list_any (bytes_eq (ns_of row)) namespaces)) rows

-- the row of a snapshot's parent (containerd snapshots service)
abbrev pub parent_of : List SnapRow → SnapRow → Option SnapRow
parent_of rows row = parent_row rows row.key.ns row.key.snapshotter row.parent

-- a parent is a committed row of the same namespace and snapshotter (containerd snapshots service),
-- with a smaller number, so parent links end
abbrev pub HasParent : List SnapRow → SnapRow → Type 0
HasParent rows row = IfSome row.parent (λ name. (above : SnapRow) × (parent_of rows row ≡ Some above) × IsTrue (is_committed above.kind) × (above.number < row.number))

-- parents are there, and no backend number is used twice
pub record AreNumbered (snapshots : List SnapRow) (ingests : List IngestRow) : Type 0 where
  pub parents : All (HasParent snapshots) snapshots
  pub snapshots_apart : AllPairs (λ (a : SnapRow) (b : SnapRow). IsTrue (not (a.number == b.number))) snapshots
  pub ingests_apart : AllPairs (λ (a : IngestRow) (b : IngestRow). IsTrue (not (a.number == b.number))) ingests
  pub apart : All (λ (snap : SnapRow). All (λ (begun : IngestRow). IsTrue (not (snap.number == begun.number))) ingests) snapshots

-- what the tables keep among themselves
pub record AreTables (tables : Tables) : Type 0 where
  pub namespaces : IsTrue (are_in_order namespace_key tables.namespaces)
  pub images : AreRows image_key (λ (row : ImageRow). row.ns) tables.namespaces tables.images
  pub containers : AreRows container_key (λ (row : ContainerRow). row.ns) tables.namespaces tables.containers
  pub content : AreRows content_key (λ (row : ContentRow). row.ns) tables.namespaces tables.content
  pub ingests : AreRows ingest_key (λ (row : IngestRow). row.ns) tables.namespaces tables.ingests
  pub snapshots : AreRows snap_key (λ (row : SnapRow). row.key.ns) tables.namespaces tables.snapshots
  pub numbered : AreNumbered tables.snapshots tables.ingests

-- ---- backend objects

-- the backend object of a snapshot
abbrev pub object_of : List BackSnap → Text → ℕ → Option BackSnap
object_of snapshot_objects snapshotter number = find (is_named (snapshotter, number)) snapshot_objects

-- each content row's blob is in the backend (containerd content-flow.md)
pub record HaveBlobs (content : List ContentRow) (blobs : List Text) : Type 0 where
  pub held : All (λ (row : ContentRow). IsTrue (list_any (bytes_eq row.digest) blobs)) content
  pub in_order : IsTrue (are_in_order namespace_key blobs)

-- each snapshot's and ingest's object is in the backend, a snapshot's over its parent's; each
-- number is below the next
pub record HaveObjects (snapshots : List SnapRow) (ingests : List IngestRow) (next : ℕ) (snapshot_objects : List BackSnap) (begun : List ℕ) : Type 0 where
  pub snapshots_below : All (λ (row : SnapRow). row.number < next) snapshots
  pub ingests_below : All (λ (row : IngestRow). row.number < next) ingests
  pub objects_below : All (λ (snap : BackSnap). snap.number < next) snapshot_objects
  pub begun_below : All (λ number. number < next) begun
  pub ingests_begun : All (λ (row : IngestRow). IsTrue (list_any (λ number. number == row.number) begun)) ingests
  pub objects : All (λ (row : SnapRow). object_of snapshot_objects row.key.snapshotter row.number
      ≡ Some (record { snapshotter = row.key.snapshotter; number = row.number; parent = option_map_or (λ above. Some above.number) (parent_of snapshots row) None })) snapshots
  pub back_parents : All (λ (snap : BackSnap). IfSome snap.parent (λ number. IsTrue (list_any (is_named (snap.snapshotter, number)) snapshot_objects) × (number < snap.number))) snapshot_objects
  pub objects_in_order : AllPairs (λ a b. IsTrue (stands_before a b)) snapshot_objects
  pub begun_in_order : AllPairs (λ a b. a < b) begun

-- a store is sound: its tables, its leases, and its backend objects
pub record IsSound (state : State) : Type 0 where
  pub tables : AreTables state.records.tables
  pub leases : AreRows lease_key (λ (row : LeaseRow). row.ns) state.records.tables.namespaces state.records.leases
  pub stored : HaveBlobs state.records.tables.content state.backends.blobs
  pub backed : HaveObjects state.records.tables.snapshots state.records.tables.ingests state.records.next state.backends.snapshots state.backends.ingests

-- ---- removals

-- Each snapshot of the list stands after all its children in the list, and no snapshot outside the
-- list has a parent in it. Containerd snapshots service: children are removed before their parent.
pub record IsChildfirst (list : List ℕ) (shard : List BackSnap) : Type 0 where
  pub after_children : AllPairs (λ earlier late. All (λ snap. snap.number ≡ late → snap.parent ≡ Some earlier → ⊥) shard) list
  pub closed : All (λ snap. IfSome snap.parent (λ number. Contains list number → Contains list snap.number)) shard
