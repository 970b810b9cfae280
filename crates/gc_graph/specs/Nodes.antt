-- How nodes compare. Ours, unless a source stands beside.
use Rattle.std.specs.Prelude.{Bool, false, ◌&&◌, bytes_eq, List, All, IsTrue}
use Rattle.meta_types.specs.Text.{is_digest, is_short_name, is_name}
use Rattle.meta_types.specs.Paths.{is_same_mode}
use Rattle.meta_types.specs.declared.resource.Resource.{Resource}
use Rattle.meta_types.specs.declared.resource.Resource.TheVariants.{Content, Snapshot, Ingest}
use Rattle.gc_graph.specs.declared.node.Node.{Node}

-- the resources are of one kind and have the same names (containerd leases service, Resource)
abbrev pub is_same_resource : Resource → Resource → Bool
is_same_resource (Content a) (Content b) = bytes_eq a b
is_same_resource (Content a) _ = false
is_same_resource (Snapshot s a) (Snapshot t b) = bytes_eq s t && bytes_eq a b
is_same_resource (Snapshot s a) _ = false
is_same_resource (Ingest a) (Ingest b) = bytes_eq a b
is_same_resource (Ingest a) _ = false

-- the nodes are one resource of one namespace in one mode
abbrev pub is_node : Node → Node → Bool
is_node a b = is_same_mode a.mode b.mode && is_same_resource a.resource b.resource && bytes_eq a.ns b.ns

-- the texts are allowed as names
abbrev pub is_allowed : Resource → Bool
is_allowed (Content digest) = is_digest digest
is_allowed (Snapshot s name) = is_short_name s && is_name name
is_allowed (Ingest name) = is_name name

-- so are those of each node
abbrev pub AreAllowed : List Node → Type 0
AreAllowed nodes = All (λ n. IsTrue (is_allowed n.resource)) nodes
