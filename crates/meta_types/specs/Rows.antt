-- What a store holds, as a tree. Ours, unless a source stands beside.
--
-- records: the rows that requests name, in the order of their keys. A key, in brackets here,
-- stands once. Equal names in two namespaces are two objects (containerd namespaces.md).
--   tables
--     namespaces [name]
--     images [ns, name] (containerd image store)
--       target: the digest of the content that it runs from, stored or not
--       labels: keys and values, by key
--       extra: data that no collection reads, empty if there is none; so of each row below
--     containers [ns, name] (containerd container store)
--       snapshot: snapshotter and name of the snapshot that it runs on, if any, stored or not
--       labels
--     content [ns, digest]: a blob as one namespace sees it (containerd content-flow.md)
--       labels
--     ingests [ns, name]: content that is being written (containerd content-flow.md)
--       expected: the digest that it was begun for, if any
--       expires: the last moment at which it holds itself; none if it was begun under a lease
--       number: its object in the backend
--     snapshots [ns, snapshotter and name, in `key`] (containerd snapshots service)
--       kind: active, view, or committed; an active one may be committed, then others stand over it
--       parent: the name of the committed snapshot that it stands over, if any, of its namespace
--         and snapshotter
--       number: its object in the backend
--       labels
--   leases [ns, id] (containerd leases service)
--     labels
--     resources: the content, snapshots and ingests that it holds, stored or not, by type and id
--   next: the number of the next backend object, from 1 on
--   profile: 2 where images may expire, else 1
-- backends: the objects that rows own, and those that a later collection removes
--   blobs: digests, each once for all namespaces (containerd content-flow.md)
--   snapshots: snapshotter, number, and the number of the parent, if any; by snapshotter and number
--   ingests: numbers, rising
use Rattle.std.specs.Prelude.{ℕ, List, [], ◌∷◌, Option}
use Rattle.meta_types.specs.Text.{Text}
use Rattle.meta_types.specs.Keys.{Key}
use Rattle.meta_types.specs.Labels.{LabelList}
use Rattle.meta_types.specs.declared.rows.ImageRow.{ImageRow}
use Rattle.meta_types.specs.declared.rows.ContainerRow.{ContainerRow}
use Rattle.meta_types.specs.declared.rows.ContentRow.{ContentRow}
use Rattle.meta_types.specs.declared.rows.IngestRow.{IngestRow}
use Rattle.meta_types.specs.declared.rows.SnapRow.{SnapRow}
use Rattle.meta_types.specs.declared.resource.Resource.{Resource}

-- a row of a lease; the other rows are declared in src/rows.rt
pub record LeaseRow : Type 0 where
  pub ns : Text
  pub id : Text
  pub labels : LabelList
  pub extra : Text
  pub resources : List Resource

-- ---- the key of each row

abbrev pub namespace_key : Text → Key
namespace_key ns = ns ∷ []

abbrev pub image_key : ImageRow → Key
image_key row = row.ns ∷ row.name ∷ []

abbrev pub container_key : ContainerRow → Key
container_key row = row.ns ∷ row.name ∷ []

abbrev pub content_key : ContentRow → Key
content_key row = row.ns ∷ row.digest ∷ []

abbrev pub ingest_key : IngestRow → Key
ingest_key row = row.ns ∷ row.name ∷ []

abbrev pub snap_key : SnapRow → Key
snap_key row = row.key.ns ∷ row.key.snapshotter ∷ row.key.name ∷ []

abbrev pub lease_key : LeaseRow → Key
lease_key row = row.ns ∷ row.id ∷ []

-- ---- the store

-- the rows of each kind but leases
pub record Tables : Type 0 where
  pub namespaces : List Text
  pub images : List ImageRow
  pub containers : List ContainerRow
  pub content : List ContentRow
  pub ingests : List IngestRow
  pub snapshots : List SnapRow

-- all that requests name
pub record Records : Type 0 where
  pub tables : Tables
  pub leases : List LeaseRow
  pub next : ℕ
  pub profile : ℕ

-- a snapshot of the backend
pub record BackSnap : Type 0 where
  pub snapshotter : Text
  pub number : ℕ
  pub parent : Option ℕ

-- all objects of the backend
pub record BackLists : Type 0 where
  pub blobs : List Text
  pub snapshots : List BackSnap
  pub ingests : List ℕ

pub record State : Type 0 where
  pub records : Records
  pub backends : BackLists

abbrev pub empty_store : State
empty_store = record {
  records = record {
    tables = record { namespaces = []; images = []; containers = []; content = []; ingests = []; snapshots = [] };
    leases = [];
    next = 1;
    profile = 1;
  };
  backends = record { blobs = []; snapshots = []; ingests = [] };
}
