-- Small changes of a store, and the tests that requests make. Ours, unless a source stands beside.
use Rattle.std.specs.Prelude.{ℕ, ◌+◌, Bool, true, not, ◌&&◌, ◌||◌, nat_lt, List, [], ◌∷◌, Option, false, if◌then◌else◌, bytes_eq}
use Rattle.std.specs.List.{list_any, list_all}
use Rattle.std.specs.Option.{option_map_or}
use Rattle.std.specs.Ordering.{is_lt}
use Rattle.meta_types.specs.Text.{Text, text_cmp}
use Rattle.meta_types.specs.Keys.{Key, put_in_order, row_at, has_row, add_row, remove_row, change_row}
use Rattle.meta_types.specs.Resources.{resource_key, held}
use Rattle.meta_types.specs.Rows.{Tables, State, BackSnap, LeaseRow, namespace_key, lease_key}
use Rattle.meta_types.specs.declared.rows.ImageRow.{ImageRow}
use Rattle.meta_types.specs.declared.rows.ContainerRow.{ContainerRow}
use Rattle.meta_types.specs.declared.rows.ContentRow.{ContentRow}
use Rattle.meta_types.specs.declared.rows.IngestRow.{IngestRow}
use Rattle.meta_types.specs.declared.rows.SnapRow.{SnapRow}
use Rattle.meta_types.specs.declared.resource.Resource.{Resource}

-- ---- one list of the store is another

abbrev pub with_tables : State → Tables → State
with_tables state tables = record state { records = record state.records { tables = tables } }

abbrev pub with_leases : State → List LeaseRow → State
with_leases state leases = record state { records = record state.records { leases = leases } }

abbrev pub with_namespaces : State → List Text → State
with_namespaces state rows = with_tables state (record state.records.tables { namespaces = rows })

abbrev pub with_images : State → List ImageRow → State
with_images state rows = with_tables state (record state.records.tables { images = rows })

abbrev pub with_containers : State → List ContainerRow → State
with_containers state rows = with_tables state (record state.records.tables { containers = rows })

abbrev pub with_content : State → List ContentRow → State
with_content state rows = with_tables state (record state.records.tables { content = rows })

abbrev pub with_ingests : State → List IngestRow → State
with_ingests state rows = with_tables state (record state.records.tables { ingests = rows })

abbrev pub with_snapshots : State → List SnapRow → State
with_snapshots state rows = with_tables state (record state.records.tables { snapshots = rows })

-- ---- leases

-- the lease holds the resource (containerd leases service)
abbrev pub lease_holds : Key → Resource → List LeaseRow → Bool
lease_holds key resource leases = option_map_or (λ (row : LeaseRow). has_row resource_key (resource_key resource) row.resources) (row_at lease_key key leases) false

-- the lease holds one resource more (containerd leases service, AddResource)
abbrev pub hold_in_lease : Key → Resource → List LeaseRow → List LeaseRow
hold_in_lease key resource leases = change_row lease_key key (λ row. record row { resources = held resource row.resources }) leases

-- the lease drops a resource (containerd leases service, DeleteResource)
abbrev pub release_in_lease : Key → Resource → List LeaseRow → List LeaseRow
release_in_lease key resource leases = change_row lease_key key (λ row. record row { resources = remove_row resource_key (resource_key resource) row.resources }) leases

-- the lease that a request names, if one, holds the resource (containerd leases service: what is
-- made under a lease is held by it)
abbrev pub hold_under : Text → Option Text → Resource → List LeaseRow → List LeaseRow
hold_under ns lease resource leases = option_map_or (λ id. hold_in_lease (ns ∷ id ∷ []) resource leases) lease leases

-- that lease, if one, drops the resource
abbrev pub release_under : Text → Option Text → Resource → List LeaseRow → List LeaseRow
release_under ns lease resource leases = option_map_or (λ id. release_in_lease (ns ∷ id ∷ []) resource leases) lease leases

-- that lease, if one, doesn't hold the resource yet
abbrev pub is_new_to : Text → Option Text → Resource → List LeaseRow → Bool
is_new_to ns lease resource leases = option_map_or (λ id. not (lease_holds (ns ∷ id ∷ []) resource leases)) lease false

-- the new object goes into the lease that the request names (containerd leases service)
abbrev pub holding : Text → Option Text → Resource → State → State
holding ns lease resource state = with_leases state (hold_under ns lease resource state.records.leases)

-- the lease that the request names, if there is one, drops the object (containerd leases service)
abbrev pub dropping : Text → Option Text → Resource → State → State
dropping ns lease resource state = with_leases state (release_under ns lease resource
    state.records.leases)

-- ---- backend objects

-- a blob is kept once, whoever stores it (containerd content-flow.md)
abbrev pub put_blob : Text → List Text → List Text
put_blob digest blobs = if list_any (bytes_eq digest) blobs then blobs else add_row namespace_key digest blobs

abbrev pub with_blob : Text → State → State
with_blob digest state = record state { backends = record state.backends { blobs = put_blob digest state.backends.blobs } }

-- the backend holds an ingest under the next number, which is used now
abbrev pub with_ingest_object : State → State
with_ingest_object state = record {
  records = record state.records { next = state.records.next + 1 };
  backends = record state.backends { ingests = put_in_order nat_lt state.records.next state.backends.ingests };
}

-- backend snapshots stand by snapshotter, then by number
abbrev pub stands_before : BackSnap → BackSnap → Bool
stands_before a b = is_lt (text_cmp a.snapshotter b.snapshotter) || bytes_eq a.snapshotter b.snapshotter && nat_lt a.number b.number

-- the backend holds a snapshot under the next number, which is used now,
-- over the object of its parent
abbrev pub with_snapshot_object : Text → Option ℕ → State → State
with_snapshot_object snapshotter parent state = record {
  records = record state.records { next = state.records.next + 1 };
  backends = record state.backends { snapshots = put_in_order stands_before (record { snapshotter = snapshotter; number = state.records.next; parent = parent }) state.backends.snapshots };
}

-- ---- tests (of namespaces and leases: containerd namespaces.md, leases service)

abbrev pub has_namespace : Tables → Text → Bool
has_namespace tables ns = list_any (bytes_eq ns) tables.namespaces

abbrev pub has_lease : State → Text → Text → Bool
has_lease state ns id = has_row lease_key (ns ∷ id ∷ []) state.records.leases

-- some object of the tables is of the namespace
abbrev pub is_in_use : Tables → Text → Bool
is_in_use tables ns = list_any (λ row. bytes_eq ns row.ns) tables.images
    || list_any (λ row. bytes_eq ns row.ns) tables.containers
    || list_any (λ row. bytes_eq ns row.ns) tables.content
    || list_any (λ row. bytes_eq ns row.ns) tables.ingests
    || list_any (λ row. bytes_eq ns row.key.ns) tables.snapshots

abbrev pub has_lease_in : List LeaseRow → Text → Bool
has_lease_in leases ns = list_any (λ row. bytes_eq ns row.ns) leases

-- every text that is named is allowed
abbrev pub all_of : List Bool → Bool
all_of tests = list_all (λ test. test) tests

-- one that may be left out
abbrev pub is_allowed_if : (Text → Bool) → Option Text → Bool
is_allowed_if test text = option_map_or test text true
