-- Which rows a path of references leads to. Ours, unless a source stands beside.
use Rattle.std.specs.Prelude.{ℕ, ◌==◌, Bool, true, false, not, ◌&&◌, ◌||◌, List, [], ◌∷◌, ◌++◌, map, bytes_eq, IsTrue, ℤ, int_le, Contains, ◌↔◌, if◌then◌else◌}
use Rattle.std.specs.List.{list_any}
use Rattle.std.specs.Option.{option_map_or}
use Rattle.meta_types.specs.Text.{Text}
use Rattle.meta_types.specs.Labels.{LabelList}
use Rattle.meta_types.specs.CollectorLabels.{is_marked_root, is_flat, is_expired, references_content, references_snapshot}
use Rattle.meta_types.specs.Rows.{LeaseRow, Records}
use Rattle.meta_types.specs.declared.rows.ImageRow.{ImageRow}
use Rattle.meta_types.specs.declared.rows.ContainerRow.{ContainerRow}
use Rattle.meta_types.specs.declared.rows.ContentRow.{ContentRow}
use Rattle.meta_types.specs.declared.rows.IngestRow.{IngestRow}
use Rattle.meta_types.specs.declared.rows.SnapRow.{SnapRow}
use Rattle.meta_types.specs.declared.resource.Mode.{Mode}
use Rattle.meta_types.specs.declared.resource.Mode.TheVariants.{Full, Flat}
use Rattle.meta_types.specs.declared.resource.Resource.{Resource}
use Rattle.meta_types.specs.declared.resource.Resource.TheVariants.{Content, Snapshot, Ingest}

-- the things of a path: content and snapshots come in two modes, with their labels followed or
-- without (compare flat leases, containerd garbage-collection.md)
pub data Thing : Type 0 where
  image : ImageRow → Thing
  container : ContainerRow → Thing
  lease : LeaseRow → Thing
  ingest : IngestRow → Thing
  content : Mode → ContentRow → Thing
  snapshot : Mode → SnapRow → Thing

abbrev pub in_both_modes : {Row : Type 0} → (Mode → Row → Thing) → List Row → List Thing
in_both_modes thing rows = map (thing Full) rows ++ map (thing Flat) rows

abbrev pub things : Records → List Thing
things records = map image records.tables.images ++ map container records.tables.containers
    ++ map lease records.leases ++ map ingest records.tables.ingests
    ++ in_both_modes content records.tables.content ++ in_both_modes snapshot records.tables.snapshots

-- the namespace that a thing is of (containerd namespaces.md)
abbrev pub namespace_of : Thing → Text
namespace_of (image row) = row.ns
namespace_of (container row) = row.ns
namespace_of (lease row) = row.ns
namespace_of (ingest row) = row.ns
namespace_of (content mode row) = row.ns
namespace_of (snapshot mode row) = row.key.ns

-- ---- what references what

abbrev pub is_same_mode : Mode → Mode → Bool
is_same_mode Full Full = true
is_same_mode Flat Flat = true
is_same_mode Full Flat = false
is_same_mode Flat Full = false

-- the thing is the content with this digest, in this mode
abbrev pub is_content : Text → Mode → Thing → Bool
is_content digest mode (content m row) = is_same_mode mode m && bytes_eq row.digest digest
is_content digest mode _ = false

-- the thing is this snapshot, in this mode
abbrev pub is_snapshot : Text → Text → Mode → Thing → Bool
is_snapshot snapshotter name mode (snapshot m row) = is_same_mode mode m && bytes_eq row.key.snapshotter snapshotter && bytes_eq row.key.name name
is_snapshot snapshotter name mode _ = false

-- the thing is this ingest; an ingest has one mode
abbrev pub is_ingest : Text → Thing → Bool
is_ingest name (ingest row) = bytes_eq row.name name
is_ingest name _ = false

-- the thing is what a lease holds, in the lease's mode (containerd leases service, Resource)
abbrev pub is_resource : Resource → Mode → Thing → Bool
is_resource (Content digest) mode thing = is_content digest mode thing
is_resource (Snapshot snapshotter name) mode thing = is_snapshot snapshotter name mode thing
is_resource (Ingest name) mode thing = is_ingest name thing

-- some label references the thing, whose own labels are then followed too (containerd
-- garbage-collection.md, reference labels)
abbrev pub is_label_ref : LabelList → Thing → Bool
is_label_ref labels (content Full row) = references_content labels row.digest
is_label_ref labels (snapshot Full row) = references_snapshot labels row.key.snapshotter row.key.name
is_label_ref labels _ = false

-- the thing is the snapshot's parent, in this mode (containerd snapshots service, parents)
abbrev pub is_parent : SnapRow → Mode → Thing → Bool
is_parent row mode thing = option_map_or (λ name. is_snapshot row.key.snapshotter name mode thing) row.parent false

-- a lease with `containerd.io/gc.flat` holds its resources without their labels (containerd
-- garbage-collection.md, flat leases)
abbrev pub lease_mode : LeaseRow → Mode
lease_mode row = if is_flat row.labels then Flat else Full

-- A row references an image's target, a container's snapshot, a lease's resources, the content that
-- an ingest expects, a snapshot's parent (containerd garbage-collection.md; parents of flat
-- snapshots: ours).
-- It references what its labels name too, but for flat rows (containerd garbage-collection.md;
-- labels of images and containers: ours).
abbrev pub references : Thing → Thing → Bool
references (image row) thing = is_content row.target Full thing || is_label_ref row.labels thing
references (container row) thing = option_map_or (λ key. is_snapshot key.0 key.1 Full thing) row.snapshot false || is_label_ref row.labels thing
references (lease row) thing = list_any (λ resource. is_resource resource (lease_mode row) thing) row.resources
references (ingest row) thing = option_map_or (λ digest. is_content digest Full thing) row.expected false
references (content Full row) thing = is_label_ref row.labels thing
references (content Flat row) thing = false
references (snapshot Full row) thing = is_parent row Full thing || is_label_ref row.labels thing
references (snapshot Flat row) thing = is_parent row Flat thing

-- a reference stays within its namespace (containerd namespaces.md)
abbrev pub has_edge : Thing → Thing → Bool
has_edge a b = bytes_eq (namespace_of a) (namespace_of b) && references a b

-- ---- where paths begin

abbrev pub images_expire : ℕ → Bool
images_expire profile = profile == 2

-- an image stays; in profile 2, until its expiry (containerd
-- garbage-collection.md: images are roots)
abbrev pub image_stays : ℕ → ℤ → ImageRow → Bool
image_stays profile at row = not (images_expire profile && is_expired row.labels at)

-- a lease stays until its expiry (containerd garbage-collection.md, `containerd.io/gc.expire`)
abbrev pub lease_stays : ℤ → LeaseRow → Bool
lease_stays at row = not (is_expired row.labels at)

-- an ingest that has its own end holds itself up to that moment, which is included
abbrev pub ingest_holds_itself : ℤ → IngestRow → Bool
ingest_holds_itself at row = option_map_or (λ expiry. int_le at expiry.0) row.expires false

-- where paths begin: images, containers, leases and ingests that haven't ended, and rows with a
-- root label (containerd garbage-collection.md, roots)
abbrev pub is_root : ℕ → ℤ → Thing → Bool
is_root profile at (image row) = image_stays profile at row
is_root profile at (container row) = true
is_root profile at (lease row) = lease_stays at row
is_root profile at (ingest row) = ingest_holds_itself at row
is_root profile at (content Full row) = is_marked_root row.labels
is_root profile at (content Flat row) = false
is_root profile at (snapshot Full row) = is_marked_root row.labels
is_root profile at (snapshot Flat row) = false

-- ---- paths

-- a path of references, from its last thing back to its root (containerd garbage-collection.md:
-- what is referenced, directly or not)
abbrev pub IsPath : Records → ℤ → Thing → List Thing → Type 0
IsPath records at last [] = Contains (things records) last × IsTrue (is_root records.profile at last)
IsPath records at last (before ∷ path) = Contains (things records) last × IsTrue (has_edge before last) × IsPath records at before path

-- a path ends in the thing
abbrev pub IsReached : Records → ℤ → Thing → Type 0
IsReached records at thing = (path : List Thing) × IsPath records at thing path

-- the test tells in which things of the store a path ends
pub record TellsReached (records : Records) (at : ℤ) (reached : Thing → Bool) : Type 0 where
  pub each : (thing : Thing) → Contains (things records) thing → IsTrue (reached thing) ↔ IsReached records at thing
