-- Whole scripts with snapshots, ingests and labels: the report of a collection, and the store that
-- it leaves. Ours, unless a source stands beside.
use Rattle.std.specs.Prelude.{ℕ, List, [], ◌∷◌, ◌++◌, codes, Option, Some, None, pos}
use Rattle.meta_types.specs.Text.{Text}
use Rattle.meta_types.specs.Rows.{State, BackSnap, empty_store}
use Rattle.meta_types.specs.declared.rows.SnapRow.{SnapRow}
use Rattle.meta_types.specs.declared.rows.SnapKind.{SnapKind}
use Rattle.meta_types.specs.declared.rows.SnapKind.TheVariants.{Active, Committed}
use Rattle.meta_types.specs.declared.resource.Resource.TheVariants.{Snapshot}
use Rattle.meta_types.specs.Backends.{no_objects}
use Rattle.meta_types.specs.Reports.{Collects}
use Rattle.meta_types.specs.Worked.{after_all, a, b, c, d, x, l, overlayfs, native, first_of_march, first_of_march_text, named, adds_image, adds, adds_lease, holds, content_label, prepares, chain, one_namespace, nothing_removed, plain_report}
use Rattle.meta_types.specs.declared.request.Request.{Request}
use Rattle.meta_types.specs.declared.request.Request.TheVariants.{NsAdd, ContainerAdd, IngestBegin}
use Rattle.meta_types.specs.Worked.Images.{flat_label, namespace_alone}

-- four snapshots, one over the other, the last with a label
abbrev pub chain_held : List Request
chain_held = chain overlayfs (content_label b) ++ (adds_lease flat_label ∷ holds (codes "snapshots/overlayfs") (codes "t") ∷ [])

-- the chain, and content that its label names
abbrev pub chain_and_content : State
chain_and_content = after_all empty_store (NsAdd x ∷ chain_held ++ (adds b [] ∷ []))

-- a row of the chain
abbrev pub chain_row : Text → SnapKind → Option Text → ℕ → List (Text × Text) → SnapRow
chain_row name kind parent number labels = record {
  key = record
      { ns = x; snapshotter = overlayfs; name = name };
  kind = kind;
  parent = parent;
  number = number;
  labels = labels;
  extra = [];
}

-- its backend object
abbrev pub chain_object : ℕ → Option ℕ → BackSnap
chain_object number parent = record { snapshotter = overlayfs; number = number; parent = parent }

-- the store without the content, row by row
abbrev pub chain_alone : State
chain_alone = record {
  records = record {
    tables = record {
      namespaces = x ∷ [];
      images = [];
      containers = [];
      content = [];
      ingests = [];
      snapshots = chain_row (codes "c1") Committed None 1 [] ∷ chain_row (codes "c2") Committed (Some (codes "c1")) 2 []
          ∷ chain_row (codes "c3") Committed (Some (codes "c2")) 3 [] ∷ chain_row (codes "t") Active (Some (codes "c3")) 4 (content_label b) ∷ [];
    };
    leases = record {
      ns = x;
      id = l;
      labels = flat_label;
      extra = [];
      resources = Snapshot
          overlayfs (codes "t") ∷ [];
    } ∷ [];
    next = 5;
    profile = 1;
  };
  backends = record { blobs = []; snapshots = chain_object 1 None ∷ chain_object 2 (Some 1) ∷ chain_object 3 (Some 2) ∷ chain_object 4 (Some 3) ∷ []; ingests = [] };
}

-- a flat lease on the last snapshot keeps all its parents, and not the content that its label names
abbrev pub AFlatLeaseKeepsParents : Type 0
AFlatLeaseKeepsParents = Collects chain_and_content first_of_march no_objects
    (plain_report (record no_objects { blobs = b ∷ [] }) (record one_namespace { leases = 1; snapshots = 4 }) (record nothing_removed { content = (x, b) ∷ [] }) 4) chain_alone

-- two chains that nothing holds
abbrev pub two_chains : State
two_chains = after_all empty_store (NsAdd x ∷ chain overlayfs [] ++ chain native [])

-- an empty namespace, in a store that has used all numbers below the given one
abbrev pub used_up_to : ℕ → State
used_up_to next = record namespace_alone { records = record namespace_alone.records { next = next } }

-- the names of a chain, as a report has them
abbrev pub chain_names : Text → List (Text × Text × Text)
chain_names snapshotter = (x, snapshotter, codes "c1") ∷ (x, snapshotter, codes "c2") ∷ (x, snapshotter, codes "c3") ∷ (x, snapshotter, codes "t") ∷ []

-- chains that nothing holds go, by snapshotter and the deepest first; their numbers stay used
abbrev pub ChildrenGoBeforeParents : Type 0
ChildrenGoBeforeParents = Collects two_chains first_of_march no_objects
    (plain_report (record no_objects { snapshots = (native, 8) ∷ (native, 7) ∷ (native, 6) ∷ (native, 5) ∷ (overlayfs, 4) ∷ (overlayfs, 3) ∷ (overlayfs, 2) ∷ (overlayfs, 1) ∷ [] }) one_namespace
    (record nothing_removed { snapshots = chain_names native ++ chain_names overlayfs }) 0) (used_up_to 9)

-- content that an ingest expects
abbrev pub ingesting : State
ingesting = after_all empty_store (NsAdd x ∷ adds b [] ∷ IngestBegin
    (record {
      ingest = named (codes "r");
      at = first_of_march_text;
      expected = Some b;
      lease = None;
      extra = None;
    }) ∷ [])

-- an ingest holds itself for a day, the end included
abbrev pub AnIngestHoldsForADay : Type 0
AnIngestHoldsForADay = Collects ingesting (pos 1709337600000000000) no_objects
    (plain_report no_objects (record one_namespace { content = 1; ingests = 1 }) nothing_removed 2) ingesting

-- a nanosecond later the ingest goes, with the content that it expected
abbrev pub AnIngestGoesAfterADay : Type 0
AnIngestGoesAfterADay = Collects ingesting (pos 1709337600000000001) no_objects
    (plain_report (record no_objects { blobs = b ∷ []; ingests = 1 ∷ [] }) one_namespace (record nothing_removed { content = (x, b) ∷ []; ingests = (x, codes "r") ∷ [] }) 0) (used_up_to 2)

-- labels that reference, and one that doesn't
abbrev pub keys_of_all_forms : List (Text × Text)
keys_of_all_forms = (codes "containerd.io/gc.ref.contents", b) ∷ (codes "containerd.io/gc.ref.content/x", c) ∷ (codes "containerd.io/gc.ref.content.z", d) ∷ (codes "containerd.io/gc.ref.snapshot.overlayfs/a", codes "t") ∷ []

-- content with these labels, a snapshot, and an image
abbrev pub many_keys : List Request
many_keys = adds a keys_of_all_forms ∷ adds c [] ∷ prepares overlayfs (codes "t") None [] ∷ adds_image a [] ∷ []

-- the same, and content that no reference names
abbrev pub many_keys_and_content : State
many_keys_and_content = after_all empty_store (NsAdd x ∷ adds b [] ∷ many_keys)

-- the same without it
abbrev pub many_keys_alone : State
many_keys_alone = after_all empty_store (NsAdd x ∷ many_keys)

-- `gc.ref.contents` references nothing; a digest that isn't stored is no harm
abbrev pub OnlyReferenceKeysReference : Type 0
OnlyReferenceKeysReference = Collects many_keys_and_content first_of_march no_objects
    (plain_report (record no_objects { blobs = b ∷ [] }) (record one_namespace { content = 2; images = 1; snapshots = 1 }) (record nothing_removed { content = (x, b) ∷ [] }) 3) many_keys_alone

-- a container on a snapshot, and content with a root label
abbrev pub rooted : State
rooted = after_all empty_store (NsAdd x ∷ prepares overlayfs (codes "t") None [] ∷ prepares native (codes "n") None []
    ∷ adds a ((codes "containerd.io/gc.root", codes "now")
    ∷ (codes "containerd.io/gc.ref.snapshot.overlayfs", codes "t") ∷ [])
    ∷ ContainerAdd (record {
      container = named (codes "c");
      snapshotter = Some native;
      key =
          Some (codes "n");
      labels = [];
      extra = None;
    }) ∷ [])

-- a container's snapshot, and content with a root label and the snapshot that it names, stay
abbrev pub ContainersAndRootLabelsHold : Type 0
ContainersAndRootLabelsHold = Collects rooted first_of_march no_objects (plain_report no_objects (record one_namespace { containers = 1; content = 1; snapshots = 2 }) nothing_removed 3) rooted
