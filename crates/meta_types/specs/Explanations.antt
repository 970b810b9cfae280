-- What an explanation says: the one shortest path of references that keeps a row. Ours, unless a
-- source stands beside.
use Rattle.std.specs.Prelude.{◌≡◌, ◌≤◌, ◌⊎◌, ℕ, ℤ, int_lt, Bool, false, not, ◌&&◌, ◌||◌, List, [], ◌∷◌, ◌++◌, length, Option, Some, None, is_some, option_map, bytes_eq, codes, if◌then◌else◌, IsTrue}
use Rattle.std.specs.List.{list_any}
use Rattle.std.specs.Option.{option_map_or}
use Rattle.meta_types.specs.Text.{Text, is_name, is_short_name}
use Rattle.meta_types.specs.Time.{instant_of}
use Rattle.meta_types.specs.EndTexts.{end_text}
use Rattle.meta_types.specs.Keys.{Key, is_before}
use Rattle.meta_types.specs.Labels.{value_of}
use Rattle.meta_types.specs.Faults.{least_of}
use Rattle.meta_types.specs.Limits.{is_too_large}
use Rattle.meta_types.specs.Resources.{resource_of}
use Rattle.meta_types.specs.Rows.{Records}
use Rattle.meta_types.specs.Paths.{Thing, image, container, lease, ingest, content, snapshot, things, namespace_of, is_resource, has_edge, images_expire, IsPath}
use Rattle.meta_types.specs.Reasons.{reason_of}
use Rattle.meta_types.specs.declared.fault.Fault.{Fault}
use Rattle.meta_types.specs.declared.resource.Mode.{Mode}
use Rattle.meta_types.specs.declared.resource.Mode.TheVariants.{Full, Flat}
use Rattle.meta_types.specs.declared.resource.Resource.TheVariants as R
use Rattle.meta_types.specs.declared.object.Object.{Object}
use Rattle.meta_types.specs.declared.object.Object.TheVariants.{Image, Container, Lease, Held}
use Rattle.meta_types.specs.declared.explanation.By.{By}
use Rattle.meta_types.specs.declared.explanation.By.TheVariants.{Root, Ended}
use Rattle.meta_types.specs.declared.explanation.PathStep.{PathStep}

-- ---- the question

abbrev pub named : (Text → Object) → Text → Option Object
named object name = if is_name name then Some (object name) else None

-- the object of a type and a name, where these are allowed
abbrev pub object_of : Text → Text → Option Object
object_of kind name =
    if bytes_eq kind (codes "images") then named Image name
    else (if bytes_eq kind (codes "containers") then named Container name
    else (if bytes_eq kind (codes "leases") then named Lease name
    else option_map Held (resource_of kind name)))

-- the thing is of the object; content and snapshots are so in both modes
abbrev pub is_of : Object → Thing → Bool
is_of (Image name) (image row) = bytes_eq row.name name
is_of (Container name) (container row) = bytes_eq row.name name
is_of (Lease id) (lease row) = bytes_eq row.id id
is_of (Held resource) thing = is_resource resource Full thing || is_resource resource Flat thing
is_of _ _ = false

-- the thing is of the object, in the namespace that is asked for
abbrev pub is_asked : Text → Object → Thing → Bool
is_asked ns object thing = bytes_eq (namespace_of thing) ns && is_of object thing

-- the row isn't there, or there are too many nodes to mark
abbrev pub explain_fault : Records → Text → Object → Option Fault
explain_fault records ns object = least_of false (not (list_any (is_asked ns object) (things records))) false (is_too_large records)

-- the same of a question's texts, where one may not be allowed
abbrev pub question_fault : Records → Text → Text → Text → Text → Option Fault
question_fault records ns kind name at =
    least_of (not (is_short_name ns && is_some (object_of kind name) && is_some (instant_of at)))
    (option_map_or (λ object. not (list_any (is_asked ns object) (things records))) (object_of kind name) false) false (is_too_large records)

-- ---- which of several paths

-- the order of the kinds
abbrev pub kind_place : Thing → ℕ
kind_place (image row) = 0
kind_place (container row) = 1
kind_place (lease row) = 2
kind_place (ingest row) = 3
kind_place (content mode row) = 4
kind_place (snapshot mode row) = 5

-- the snapshotter of a snapshot
abbrev pub group_of : Thing → Text
group_of (snapshot mode row) = row.key.snapshotter
group_of _ = []

-- the name, the id or the digest
abbrev pub name_of : Thing → Text
name_of (image row) = row.name
name_of (container row) = row.name
name_of (lease row) = row.id
name_of (ingest row) = row.name
name_of (content mode row) = row.digest
name_of (snapshot mode row) = row.key.name

abbrev pub mode_place : Thing → ℕ
mode_place (content Flat row) = 1
mode_place (snapshot Flat row) = 1
mode_place _ = 0

-- things stand by their kinds, those of a kind by the keys of their rows, and full before flat
abbrev pub thing_key : Thing → Key
thing_key thing = (kind_place thing ∷ []) ∷ namespace_of thing ∷ group_of thing ∷ name_of thing ∷ (mode_place thing ∷ []) ∷ []

abbrev pub goes_before : Thing → Thing → Bool
goes_before a b = is_before (thing_key a) (thing_key b)

-- none of these things goes before this one
abbrev pub IsFirst : (Thing → Type 0) → Thing → Type 0
IsFirst these thing = (other : Thing) → these other → IsTrue (goes_before other thing) → ⊥

-- a path with this number of things before its last one ends in the thing
abbrev pub EndsPath : Records → ℤ → ℕ → Thing → Type 0
EndsPath records at long thing = (path : List Thing) × IsPath records at thing path × (length path ≡ long)

-- back from the last thing, each is the first of those that reference the one behind it, at the end
-- of a path as long
abbrev pub IsFirstBack : Records → ℤ → Thing → List Thing → Type 0
IsFirstBack records at last [] = Unit {0}
IsFirstBack records at last (before ∷ path) =
    IsFirst (λ other. IsTrue (has_edge other last) × EndsPath records at (length path) other) before
    × IsFirstBack records at before path

-- No path to a thing that is asked for has fewer things. Of the things at the end of a path as
-- short, the last is the first in the order above, and so is each before it.
pub record IsFirstPath (records : Records) (at : ℤ) (asked : Thing → Bool) (last : Thing) (path : List Thing) : Type 0 where
  pub this : IsTrue (asked last)
  pub leads : IsPath records at last path
  pub shortest : (other : Thing) (rest : List Thing) → IsTrue (asked other) → IsPath records at other rest → length path ≤ length rest
  pub first : IsFirst (λ other. IsTrue (asked other) × EndsPath records at (length path) other) last
  pub first_back : IsFirstBack records at last path

-- the things from the last one back to the root; none exactly where no path ends
-- in a thing that is asked for
abbrev pub Explains : Records → ℤ → (Thing → Bool) → List Thing → Type 0
Explains records at asked [] = (thing : Thing) (path : List Thing) → IsTrue (asked thing) → IsPath records at thing path → ⊥
Explains records at asked (last ∷ path) = IsFirstPath records at asked last path

-- ---- the steps of a path

abbrev pub object_in : Thing → Object
object_in (image row) = Image row.name
object_in (container row) = Container row.name
object_in (lease row) = Lease row.id
object_in (ingest row) = Held (R.Ingest row.name)
object_in (content mode row) = Held (R.Content row.digest)
object_in (snapshot mode row) = Held (R.Snapshot row.key.snapshotter row.key.name)

abbrev pub mode_of : Thing → Option Mode
mode_of (content mode row) = Some mode
mode_of (snapshot mode row) = Some mode
mode_of _ = None

-- until when a thing is a root: the expiry label of a lease, in profile 2 of an image too, as it is
-- stored (containerd garbage-collection.md, `containerd.io/gc.expire`); the own end of an ingest
abbrev pub expire_of : ℕ → Thing → Option Text
expire_of profile (image row) = if images_expire profile then value_of row.labels (codes "containerd.io/gc.expire") else None
expire_of profile (lease row) = value_of row.labels (codes "containerd.io/gc.expire")
expire_of profile (ingest row) = option_map (λ end. end_text end.0) row.expires
expire_of profile _ = None

abbrev pub step_of : ℕ → By → Thing → PathStep
step_of profile by thing = record { by = by; object = object_in thing; mode = mode_of thing; expire = expire_of profile thing }

-- the steps tell the things, from the root on: each with the reason by which the one before
-- references it, the root with this word
abbrev pub AreTold : ℕ → By → List Thing → List PathStep → Type 0
AreTold profile word [] steps = steps ≡ []
AreTold profile word (root ∷ []) steps = steps ≡ step_of profile word root ∷ []
AreTold profile word (last ∷ before ∷ path) steps = (by : By) × (told : List PathStep) × (reason_of before last ≡ Some by)
    × AreTold profile word (before ∷ path) told × (steps ≡ told ++ step_of profile by last ∷ [])

-- ---- the answer

-- the things of the last moment at which a path ends in a thing that is asked for, as above; none
-- exactly where there is no such moment
abbrev pub ExplainsLast : Records → (Thing → Bool) → List Thing → Type 0
ExplainsLast records asked [] = (at : ℤ) → Explains records at asked []
ExplainsLast records asked (last ∷ path) = (at : ℤ) × Explains records at asked (last ∷ path)
    × ((later : ℤ) → IsTrue (int_lt at later) → Explains records later asked [])

-- a path keeps the row that is asked for: its steps stand from the root on
pub record IsKeptBy (records : Records) (at : ℤ) (asked : Thing → Bool) (steps : List PathStep) : Type 0 where
  pub last : Thing
  pub path : List Thing
  pub explains : Explains records at asked (last ∷ path)
  pub told : AreTold records.profile Root (last ∷ path) steps

-- no path does: the steps are those of the last moment at which one did, if one ever did
pub record WasKeptBy (records : Records) (at : ℤ) (asked : Thing → Bool) (steps : List PathStep) : Type 0 where
  pub none : Explains records at asked []
  pub path : List Thing
  pub explains : ExplainsLast records asked path
  pub told : AreTold records.profile Ended path steps

abbrev pub IsExplanation : Records → ℤ → (Thing → Bool) → Bool → List PathStep → Type 0
IsExplanation records at asked kept steps =
    (IsTrue kept × IsKeptBy records at asked steps) ⊎ (IsTrue (not kept) × WasKeptBy records at asked steps)
