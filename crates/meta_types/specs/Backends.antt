-- Which backend objects stay, and in which order the others go. Ours,
-- unless a source stands beside.
use Rattle.std.specs.Prelude.{◌≡◌, ℕ, suc, zero, Bool, false, not, ◌&&◌, ◌||◌, ◌==◌, nat_lt, List, [], ◌∷◌, map, length, filter, find, bytes_eq, IsTrue, option_and_then, All}
use Rattle.std.specs.List.{list_any}
use Rattle.std.specs.Option.{option_map_or}
use Rattle.std.specs.Ordering.{is_lt}
use Rattle.meta_types.specs.Text.{Text, text_cmp}
use Rattle.meta_types.specs.Keys.{in_order}
use Rattle.meta_types.specs.Rows.{Tables, BackSnap, BackLists}

-- names of backend objects: digests, numbers, and snapshotters with numbers
pub record BackNames : Type 0 where
  pub blobs : List Text
  pub ingests : List ℕ
  pub snapshots : List (Text × ℕ)

abbrev pub no_objects : BackNames
no_objects = record { blobs = []; ingests = []; snapshots = [] }

-- ---- who owns an object

-- a blob is owned by the content rows of all namespaces (containerd content-flow.md)
abbrev pub owns_blob : Tables → Text → Bool
owns_blob tables digest = list_any (λ row. bytes_eq row.digest digest) tables.content

-- a backend snapshot is owned by the row with its snapshotter and number
abbrev pub owns_snapshot : Tables → BackSnap → Bool
owns_snapshot tables snap = list_any (λ row. bytes_eq row.key.snapshotter snap.snapshotter && row.number == snap.number) tables.snapshots

-- a backend ingest is owned by the row with its number
abbrev pub owns_ingest : Tables → ℕ → Bool
owns_ingest tables number = list_any (λ row. row.number == number) tables.ingests

-- ---- parents of backend snapshots

abbrev pub is_named : Text × ℕ → BackSnap → Bool
is_named name snap = bytes_eq snap.snapshotter name.0 && snap.number == name.1

abbrev pub object_name : BackSnap → Text × ℕ
object_name snap = (snap.snapshotter, snap.number)

-- the parent, its parent and so on, as many as asked (containerd snapshots service, parents)
abbrev pub ancestors : ℕ → List BackSnap → BackSnap → List BackSnap
ancestors zero snapshots snap = []
ancestors (suc most) snapshots snap =
    option_map_or (λ above. above ∷ ancestors most snapshots above) (option_and_then (λ number. find (is_named (snap.snapshotter, number)) snapshots) snap.parent) []

-- all ancestors: there are fewer than snapshots
abbrev pub ancestors_of : List BackSnap → BackSnap → List BackSnap
ancestors_of snapshots snap = ancestors (length snapshots) snapshots snap

abbrev pub depth_of : List BackSnap → BackSnap → ℕ
depth_of snapshots snap = length (ancestors_of snapshots snap)

-- the snapshot is an ancestor of one that is named
abbrev pub is_ancestor_of_one : List BackSnap → List (Text × ℕ) → BackSnap → Bool
is_ancestor_of_one snapshots names snap =
    list_any (λ one. list_any (λ name. is_named name one) names && list_any (is_named (object_name snap)) (ancestors_of snapshots one)) snapshots

-- ---- which objects stay, and which are removed

-- a blob stays where these tables own it, or its removal failed
abbrev pub blob_stays : Tables → BackNames → Text → Bool
blob_stays tables failed digest = owns_blob tables digest || list_any (bytes_eq digest) failed.blobs

-- an ingest's object stays where these tables own it, or its removal failed
abbrev pub ingest_object_stays : Tables → BackNames → ℕ → Bool
ingest_object_stays tables failed number = owns_ingest tables number || list_any (λ other. other == number) failed.ingests

-- a snapshot's object stays where these tables own it, its removal failed, or that of a descendant
-- failed (containerd snapshots service: a parent isn't removed before its children)
abbrev pub snapshot_object_stays : Tables → List BackSnap → BackNames → BackSnap → Bool
snapshot_object_stays tables snapshots failed snap = owns_snapshot tables snap
    || list_any (λ name. is_named name snap) failed.snapshots || is_ancestor_of_one snapshots failed.snapshots snap

abbrev pub collected_backends : Tables → BackNames → BackLists → BackLists
collected_backends tables failed back = record {
  blobs = filter (blob_stays tables failed) back.blobs;
  snapshots = filter (snapshot_object_stays tables back.snapshots failed) back.snapshots;
  ingests = filter (ingest_object_stays tables failed) back.ingests;
}

-- snapshots are removed by snapshotter, then the deepest first, then by number (children before
-- parents: containerd snapshots service)
abbrev pub goes_before : List BackSnap → BackSnap → BackSnap → Bool
goes_before snapshots a b = is_lt (text_cmp a.snapshotter b.snapshotter)
    || bytes_eq a.snapshotter b.snapshotter && (nat_lt (depth_of snapshots b) (depth_of snapshots a)
    || depth_of snapshots a == depth_of snapshots b && nat_lt a.number b.number)

-- the removed objects, in the order of a report
abbrev pub removed_objects : Tables → BackNames → BackLists → BackNames
removed_objects tables failed back = record {
  blobs = filter (λ digest. not (blob_stays tables failed digest)) back.blobs;
  ingests = filter (λ number. not (ingest_object_stays tables failed number)) back.ingests;
  snapshots = map object_name (in_order (goes_before back.snapshots) (filter (λ snap. not (snapshot_object_stays tables back.snapshots failed snap)) back.snapshots));
}

-- These removals may have failed: objects that nothing owns, each once
-- and in the order of a report.
-- No snapshot among them is an ancestor of another: where a removal fails, no ancestor is tried.
pub record IsFailure (tables : Tables) (back : BackLists) (failed : BackNames) : Type 0 where
  pub blobs : failed.blobs ≡ filter (λ digest. list_any (bytes_eq digest) failed.blobs) (removed_objects tables no_objects back).blobs
  pub ingests : failed.ingests ≡ filter (λ number. list_any (λ other. other == number) failed.ingests) (removed_objects tables no_objects back).ingests
  pub snapshots : failed.snapshots ≡ filter (λ name. list_any (λ other. bytes_eq other.0 name.0 && other.1 == name.1) failed.snapshots) (removed_objects tables no_objects back).snapshots
  pub apart : All (λ snap. IsTrue (list_any (λ name. is_named name snap) failed.snapshots) → is_ancestor_of_one back.snapshots failed.snapshots snap ≡ false) back.snapshots
