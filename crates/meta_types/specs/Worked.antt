-- Whole scripts, worked out: names, requests and reports that they share. Ours,
-- unless a source stands beside.
pub mod Times
pub mod Images
pub mod Objects
pub mod Later
pub mod Failures
use Rattle.std.specs.Prelude.{ℕ, false, List, [], ◌∷◌, ◌++◌, replicate, codes, Option, Some, None, ℤ, pos}
use Rattle.meta_types.specs.Text.{Text}
use Rattle.meta_types.specs.Rows.{State}
use Rattle.meta_types.specs.Backends.{BackNames, no_objects}
use Rattle.meta_types.specs.Reports.{Kept, Removed, Report}
use Rattle.meta_types.specs.Steps.{Answer, answer_to, after}
use Rattle.meta_types.specs.declared.request.RawName.{RawName}
use Rattle.meta_types.specs.declared.request.RawSnapshot.{RawSnapshot}
use Rattle.meta_types.specs.declared.request.Request.{Request}
use Rattle.meta_types.specs.declared.request.Request.TheVariants.{ImageAdd, ContentAdd, SnapPrepare, SnapCommit, LeaseAdd, LeaseHold}

-- the store after these requests
abbrev pub after_all : State → List Request → State
after_all state [] = state
after_all state (request ∷ requests) = after_all (after state request) requests

-- what they answer
abbrev pub answers_to : State → List Request → List Answer
answers_to state [] = []
answers_to state (request ∷ requests) = answer_to state request ∷ answers_to (after state request) requests

-- ---- names

-- a digest of one letter
abbrev pub digest_of : ℕ → Text
digest_of letter = codes "sha256:" ++ replicate 64 letter

-- four digests
abbrev pub a : Text
a = digest_of 97

-- another digest
abbrev pub b : Text
b = digest_of 98

-- another digest
abbrev pub c : Text
c = digest_of 99

-- another digest
abbrev pub d : Text
d = digest_of 100

-- a namespace
abbrev pub x : Text
x = codes "x"

-- an image
abbrev pub i : Text
i = codes "i"

-- a lease
abbrev pub l : Text
l = codes "l"

-- a snapshotter
abbrev pub overlayfs : Text
overlayfs = codes "overlayfs"

-- another snapshotter
abbrev pub native : Text
native = codes "native"

-- ---- moments

-- 2024-03-01T00:00:00Z
abbrev pub first_of_march : ℤ
first_of_march = pos 1709251200000000000

-- the same as a text
abbrev pub first_of_march_text : Text
first_of_march_text = codes "2024-03-01T00:00:00Z"

-- a nanosecond later
abbrev pub just_after : ℤ
just_after = pos 1709251200000000001

-- ---- requests

-- a name in the namespace
abbrev pub named : Text → RawName
named name = record { ns = x; name = name }

-- a snapshot in it
abbrev pub snap_named : Text → Text → RawSnapshot
snap_named snapshotter name = record { ns = x; snapshotter = snapshotter; name = name }

-- an image of this content, with these labels
abbrev pub adds_image : Text → List (Text × Text) → Request
adds_image target labels = ImageAdd (record {
  image = named i;
  target = target;
  labels = labels;
  extra = None;
})

-- content with these labels
abbrev pub adds : Text → List (Text × Text) → Request
adds digest labels = ContentAdd (record {
  content = record { ns = x; digest = digest };
  labels = labels;
  lease = None;
  extra = None;
})

-- content that the lease holds
abbrev pub adds_held : Text → Request
adds_held digest = ContentAdd (record {
  content = record { ns = x; digest = digest };
  labels = [];
  lease = Some l;
  extra = None;
})

-- a lease with these labels
abbrev pub adds_lease : List (Text × Text) → Request
adds_lease labels = LeaseAdd (record { lease = named l; labels = labels; extra = None })

-- a resource that the lease holds
abbrev pub holds : Text → Text → Request
holds kind resource = LeaseHold (record { lease = named l; kind = kind; resource = resource })

-- a label that references content
abbrev pub content_label : Text → List (Text × Text)
content_label digest = (codes "containerd.io/gc.ref.content.0", digest) ∷ []

-- an active snapshot over a parent or none, with these labels
abbrev pub prepares : Text → Text → Option Text → List (Text × Text) → Request
prepares snapshotter key parent labels = SnapPrepare (record {
  snapshot = snap_named snapshotter key;
  parent = parent;
  labels = labels;
  lease = None;
  extra = None;
})

-- a snapshot committed under a name
abbrev pub commits : Text → Text → Text → Request
commits snapshotter key name = SnapCommit (record {
  snapshot = snap_named snapshotter key;
  name = name;
  labels = [];
  lease = None;
  dropped_by = None;
  extra = None;
})

-- a snapshot over no parent, committed under a name
abbrev pub layer : Text → Text → Text → List Request
layer snapshotter key name = prepares snapshotter key None [] ∷ commits snapshotter key name ∷ []

-- the same over a parent
abbrev pub layer_over : Text → Text → Text → Text → List Request
layer_over snapshotter key name parent =
    prepares snapshotter key (Some parent) [] ∷ commits snapshotter key name ∷ []

-- three committed layers, one over the other, and an active one with these labels over them
abbrev pub chain : Text → List (Text × Text) → List Request
chain snapshotter labels = layer snapshotter (codes "p1") (codes "c1") ++ layer_over snapshotter (codes "p2") (codes "c2") (codes "c1")
    ++ layer_over snapshotter (codes "p3") (codes "c3") (codes "c2") ++ (prepares snapshotter (codes "t") (Some (codes "c3")) labels ∷ [])

-- ---- reports

-- nothing kept but one namespace
abbrev pub one_namespace : Kept
one_namespace = record { containers = 0; content = 0; images = 0; ingests = 0; leases = 0; namespaces = 1; snapshots = 0 }

-- nothing removed
abbrev pub nothing_removed : Removed
nothing_removed = record { content = []; images = []; ingests = []; leases = []; snapshots = [] }

-- the report of a collection where nothing failed and nothing was ignored
abbrev pub report_with : ℕ → BackNames → Kept → Removed → ℕ → Report
report_with profile backend kept removed scanned =
    record { backend = backend; dry = false; failed = no_objects; ignored = []; ignored_images = []; kept = kept; profile = profile; removed = removed; scanned = scanned }

-- the same of profile 1
abbrev pub plain_report : BackNames → Kept → Removed → ℕ → Report
plain_report = report_with 1
