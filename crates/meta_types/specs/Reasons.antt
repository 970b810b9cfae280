-- By what a thing references another, in the words of its row. Ours, unless a source stands beside.
use Rattle.std.specs.Prelude.{Bool, false, ◌&&◌, Option, Some, None, bytes_eq, if◌then◌else◌, option_map, find}
use Rattle.std.specs.List.{list_any}
use Rattle.std.specs.Option.{option_map_or}
use Rattle.meta_types.specs.Text.{Text}
use Rattle.meta_types.specs.Labels.{LabelList}
use Rattle.meta_types.specs.CollectorLabels.{is_content_key, snapshotter_in}
use Rattle.meta_types.specs.Paths.{Thing, image, container, lease, ingest, content, snapshot, namespace_of, is_content, is_snapshot, is_resource, is_parent, lease_mode}
use Rattle.meta_types.specs.declared.resource.Mode.TheVariants.{Full, Flat}
use Rattle.meta_types.specs.declared.explanation.By.{By}
use Rattle.meta_types.specs.declared.explanation.By.TheVariants as B

-- the label references the thing, whose own labels are then followed too (containerd
-- garbage-collection.md, reference labels)
abbrev pub is_ref : Text × Text → Thing → Bool
is_ref pair (content Full row) = is_content_key pair.0 && bytes_eq pair.1 row.digest
is_ref pair (snapshot Full row) = option_map_or (λ s. bytes_eq s row.key.snapshotter) (snapshotter_in pair.0) false && bytes_eq pair.1 row.key.name
is_ref pair _ = false

-- the key of the first label that references the thing; labels stand by their keys
abbrev pub label_reason : LabelList → Thing → Option By
label_reason labels thing = option_map (λ (pair : Text × Text). B.Label pair.0) (find (λ pair. is_ref pair thing) labels)

-- this reason where the test holds, else the other
abbrev pub by_or : Bool → By → Option By → Option By
by_or holds by other = if holds then Some by else other

-- what a row names of its own goes before its labels
abbrev pub reason_in : Thing → Thing → Option By
reason_in (image row) thing = by_or (is_content row.target Full thing) B.Target (label_reason row.labels thing)
reason_in (container row) thing = by_or (option_map_or (λ key. is_snapshot key.0 key.1 Full thing) row.snapshot false) B.Snapshot (label_reason row.labels thing)
reason_in (lease row) thing = by_or (list_any (λ held. is_resource held (lease_mode row) thing) row.resources) B.Resource None
reason_in (ingest row) thing = by_or (option_map_or (λ digest. is_content digest Full thing) row.expected false) B.Expected None
reason_in (content Full row) thing = label_reason row.labels thing
reason_in (content Flat row) thing = None
reason_in (snapshot Full row) thing = by_or (is_parent row Full thing) B.Parent (label_reason row.labels thing)
reason_in (snapshot Flat row) thing = by_or (is_parent row Flat thing) B.Parent None

-- by what the first thing references the second; none where it doesn't, as in another namespace
-- (containerd namespaces.md)
abbrev pub reason_of : Thing → Thing → Option By
reason_of a b = if bytes_eq (namespace_of a) (namespace_of b) then reason_in a b else None
