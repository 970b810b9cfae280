-- The nodes of things, and what each thing references, read once from its row. Ours, unless a
-- source stands beside.
use Rattle.std.specs.Prelude.{List, [], ◌∷◌, ◌++◌, map, Option, Some, None, if◌then◌else◌}
use Rattle.std.specs.List.{flat_map}
use Rattle.std.specs.Option.{option_map_or}
use Rattle.meta_types.specs.Text.{Text}
use Rattle.meta_types.specs.Labels.{LabelList}
use Rattle.meta_types.specs.CollectorLabels.{is_content_key, snapshotter_in}
use Rattle.meta_types.specs.Rows.{Records}
use Rattle.meta_types.specs.Paths.{Thing, image, container, lease, ingest, content, snapshot, lease_mode, in_both_modes}
use Rattle.meta_types.specs.declared.rows.ContentRow.{ContentRow}
use Rattle.meta_types.specs.declared.rows.IngestRow.{IngestRow}
use Rattle.meta_types.specs.declared.rows.SnapRow.{SnapRow}
use Rattle.meta_types.specs.declared.resource.Mode.{Mode}
use Rattle.meta_types.specs.declared.resource.Mode.TheVariants.{Full, Flat}
use Rattle.meta_types.specs.declared.resource.Resource.{Resource}
use Rattle.meta_types.specs.declared.resource.Resource.TheVariants.{Content, Snapshot, Ingest}
use Rattle.gc_graph.specs.declared.node.Node.{Node}

-- a node, by what it is of
abbrev pub node : Text → Resource → Mode → Node
node ns resource mode = record { ns = ns; resource = resource; mode = mode }

-- content, in a mode
abbrev pub content_node : Mode → ContentRow → Node
content_node mode row = node row.ns (Content row.digest) mode

-- a snapshot, in a mode
abbrev pub snapshot_node : Mode → SnapRow → Node
snapshot_node mode row = node row.key.ns (Snapshot row.key.snapshotter row.key.name) mode

-- an ingest, which has one mode
abbrev pub ingest_node : IngestRow → Node
ingest_node row = node row.ns (Ingest row.name) Full

-- the node of a thing, where it has one: images, containers and leases have none, since nothing
-- references them (containerd metadata gc.go: leases cannot be referenced)
abbrev pub node_of : Thing → Option Node
node_of (ingest row) = Some (ingest_node row)
node_of (content mode row) = Some (content_node mode row)
node_of (snapshot mode row) = Some (snapshot_node mode row)
node_of _ = None

-- the nodes of rows, in each mode
abbrev pub nodes_in_both : {Row : Type 0} → (Mode → Row → Node) → List Row → List Node
nodes_in_both node rows = map (node Full) rows ++ map (node Flat) rows

-- all nodes of a store, in the order of their numbers
abbrev pub nodes_of : Records → List Node
nodes_of records = map ingest_node records.tables.ingests
    ++ (nodes_in_both content_node records.tables.content ++ nodes_in_both snapshot_node records.tables.snapshots)

-- the things that have nodes, in that order
abbrev pub node_things : Records → List Thing
node_things records = map ingest records.tables.ingests
    ++ (in_both_modes content records.tables.content ++ in_both_modes snapshot records.tables.snapshots)

-- the things that have none
abbrev pub root_things : Records → List Thing
root_things records = map image records.tables.images ++ map container records.tables.containers ++ map lease records.leases

-- ---- what a row references

-- the content that a label references (containerd garbage-collection.md, reference labels)
abbrev pub content_target : Text → Text × Text → List Node
content_target ns label = if is_content_key label.0 then node ns (Content label.1) Full ∷ [] else []

-- the snapshot that a label references (containerd garbage-collection.md, reference labels)
abbrev pub snapshot_target : Text → Text × Text → List Node
snapshot_target ns label = option_map_or (λ s. node ns (Snapshot s label.1) Full ∷ []) (snapshotter_in label.0) []

-- what all labels of a row reference, in their order (containerd garbage-collection.md, reference
-- labels)
abbrev pub label_targets : Text → LabelList → List Node
label_targets ns labels = flat_map (λ label. content_target ns label ++ snapshot_target ns label) labels

-- a snapshot's parent, in the snapshot's mode (containerd snapshots service, parents)
abbrev pub parent_target : Mode → SnapRow → List Node
parent_target mode row = option_map_or (λ name. node row.key.ns (Snapshot row.key.snapshotter name) mode ∷ []) row.parent []

-- an ingest has one mode
abbrev pub resource_mode : Mode → Resource → Mode
resource_mode mode (Ingest name) = Full
resource_mode mode _ = mode

-- what a lease holds, in the lease's mode (containerd leases service, Resource)
abbrev pub resource_targets : Text → Mode → List Resource → List Node
resource_targets ns mode resources = map (λ resource. node ns resource (resource_mode mode resource)) resources

-- what a thing references (containerd garbage-collection.md; labels of images and containers, and
-- parents of flat snapshots: ours)
abbrev pub targets_of : Thing → List Node
targets_of (image row) = node row.ns (Content row.target) Full ∷ label_targets row.ns row.labels
targets_of (container row) = option_map_or (λ key. node row.ns (Snapshot key.0 key.1) Full ∷ []) row.snapshot [] ++ label_targets row.ns row.labels
targets_of (lease row) = resource_targets row.ns (lease_mode row) row.resources
targets_of (ingest row) = option_map_or (λ digest. node row.ns (Content digest) Full ∷ []) row.expected []
targets_of (content Full row) = label_targets row.ns row.labels
targets_of (content Flat row) = []
targets_of (snapshot Full row) = parent_target Full row ++ label_targets row.key.ns row.labels
targets_of (snapshot Flat row) = parent_target Flat row
