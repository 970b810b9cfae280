-- What a lease may hold: its type and its id as texts. Ours, unless a source stands beside.
use Rattle.std.specs.Prelude.{◌&&◌, ◌++◌, List, [], ◌∷◌, Option, Some, None, if◌then◌else◌, bytes_eq, codes, drop}
use Rattle.meta_types.specs.Text.{Text, is_short_name, is_name, is_digest, begins_with}
use Rattle.meta_types.specs.Keys.{Key, has_row, add_row}
use Rattle.meta_types.specs.declared.resource.Resource.{Resource}
use Rattle.meta_types.specs.declared.resource.Resource.TheVariants.{Content, Snapshot, Ingest}

-- the type: `content`, `ingests`, or `snapshots/` and the snapshotter
-- (containerd leases service, Resource)
abbrev pub type_of : Resource → Text
type_of (Content digest) = codes "content"
type_of (Snapshot snapshotter name) = codes "snapshots/" ++ snapshotter
type_of (Ingest name) = codes "ingests"

-- the id: a digest or a name (containerd leases service, Resource)
abbrev pub id_of : Resource → Text
id_of (Content digest) = digest
id_of (Snapshot snapshotter name) = name
id_of (Ingest name) = name

-- resources stand by the bytes of the type, then of the id
abbrev pub resource_key : Resource → Key
resource_key resource = type_of resource ∷ id_of resource ∷ []

abbrev pub content_of : Text → Option Resource
content_of id = if is_digest id then Some (Content id) else None

abbrev pub ingest_of : Text → Option Resource
ingest_of id = if is_name id then Some (Ingest id) else None

abbrev pub snapshot_of : Text → Text → Option Resource
snapshot_of snapshotter id = if is_short_name snapshotter && is_name id then Some (Snapshot snapshotter id) else None

-- the resource of a type and an id, where these are allowed; behind `snapshots/` the
-- whole rest is the snapshotter
abbrev pub resource_of : Text → Text → Option Resource
resource_of kind id =
    if bytes_eq kind (codes "content") then content_of id
    else (if bytes_eq kind (codes "ingests") then ingest_of id
    else (if begins_with (codes "snapshots/") kind then snapshot_of (drop 10 kind) id else None))

-- one resource more; where it is held already nothing changes (containerd
-- leases service, AddResource)
abbrev pub held : Resource → List Resource → List Resource
held resource resources = if has_row resource_key (resource_key resource) resources then resources else add_row resource_key resource resources
