-- The names of each snapshot's children, and the families that hold them. Ours, unless a source
-- stands beside.
use Rattle.std.specs.Prelude.{◌≡◌, Bool, false, List, [], ◌∷◌, map, filter, length, Option, Some, None, Result, Ok, Err, OnOk, OnErr, if◌then◌else◌, ◌==◌}
use Rattle.std.proofs.Common.{ap, ◌∙◌}
use Rattle.meta_types.specs.Text.{Text}
use Rattle.meta_types.specs.Keys.{Key, is_key, row_at, has_row, add_row, remove_row, change_row}
use Rattle.meta_types.specs.Faults.{Refuses, least_of}
use Rattle.meta_types.specs.Ops.Snapshots.{is_child_of}
use Rattle.meta_types.specs.declared.fault.Fault.{Fault}
use Rattle.meta_types.specs.declared.rows.SnapRow.{SnapRow}
use Rattle.meta_types.specs.declared.rows.SnapKey.{SnapKey}
use Rattle.row_tables.specs.Arrived.{one_text}
use Rattle.object_tables.specs.declared.families.Family.{Family}

-- names by the namespace, the snapshotter and the name of a parent
abbrev pub NamesByParent : Type 0
NamesByParent = Text → Text → Text → List Text

-- the names of the snapshots that name a parent
abbrev pub names_under : List SnapRow → NamesByParent
names_under rows ns snapshotter parent = map (λ row. row.key.name) (filter (is_child_of ns snapshotter parent) rows)

-- where a snapshot's parent stands
abbrev pub parent_key : SnapKey → Text → Key
parent_key key parent = key.ns ∷ key.snapshotter ∷ parent ∷ []

-- with a name more under a parent
abbrev pub entered : SnapKey → Text → NamesByParent → NamesByParent
entered key parent names ns snapshotter name =
    if is_key (ns ∷ snapshotter ∷ name ∷ []) (parent_key key parent) then add_row one_text key.name (names ns snapshotter name) else names ns snapshotter name

-- with a name less under a parent
abbrev pub left : SnapKey → Text → NamesByParent → NamesByParent
left key parent names ns snapshotter name =
    if is_key (ns ∷ snapshotter ∷ name ∷ []) (parent_key key parent) then remove_row one_text (key.name ∷ []) (names ns snapshotter name) else names ns snapshotter name

abbrev pub left_by : SnapKey → Option Text → NamesByParent → NamesByParent
left_by key None names = names
left_by key (Some parent) names = left key parent names

-- without a snapshot that goes
abbrev pub without_row : NamesByParent → SnapRow → NamesByParent
without_row names row = left_by row.key row.parent names

-- the key of a child
abbrev pub child_named : Text → Text → Text → SnapKey
child_named ns snapshotter name = record { ns = ns; snapshotter = snapshotter; name = name }

-- ---- families

abbrev pub family_key : Family → Key
family_key family = family.ns ∷ family.snapshotter ∷ family.parent ∷ []

-- the names of a family's children, in their order; none where there is no family
abbrev pub names_of : Option Family → List Text
names_of None = []
names_of (Some family) = family.children

abbrev pub family_names : List Family → NamesByParent
family_names families ns snapshotter parent = names_of (row_at family_key (ns ∷ snapshotter ∷ parent ∷ []) families)

-- a family of one child
abbrev pub first_family : SnapKey → Text → Family
first_family key parent = record { ns = key.ns; snapshotter = key.snapshotter; parent = parent; children = key.name ∷ [] }

-- a family with a child more
abbrev pub with_child : Text → Family → Family
with_child name family = record family { children = add_row one_text name family.children }

-- a family with a child less
abbrev pub without_child : Text → Family → Family
without_child name family = record family { children = remove_row one_text (name ∷ []) family.children }

-- a child comes, where it isn't there
pub record Enters (name : Text) (old : Family) (answer : Result (Unit {0}) Fault) (new : Family) : Type 0 where
  pub fault : Refuses answer (least_of false false (has_row one_text (name ∷ []) old.children) false)
  pub ok : OnOk answer (new ≡ with_child name old)
  pub err : OnErr answer (new ≡ old)

-- what a child that comes leaves of its family
pub enters_keep : {X : Type 0} (name : Text) (part : Family → X) → ((family : Family) → part (with_child name family) ≡ part family)
    → (old : Family) (answer : Result (Unit {0}) Fault) (new : Family) → Enters name old answer new → part new ≡ part old
enters_keep name part keeps old (Ok u) new e = ap part e.ok ∙ keeps old
enters_keep name part keeps old (Err fault) new e = ap part e.err

-- a child goes; the answer is whether none is left
pub record Leaves (name : Text) (old : Family) (answer : Bool) (new : Family) : Type 0 where
  pub left : new ≡ without_child name old
  pub empty : answer ≡ (length new.children == 0)

-- a child goes from its family, and the family with its last child
abbrev pub left_in : Key → Text → Option Family → List Family → List Family
left_in home name None families = families
left_in home name (Some family) families =
    let rest = change_row family_key home (without_child name) families in
    if length (without_child name family).children == 0 then remove_row family_key home rest else rest

abbrev pub families_left : SnapKey → Text → List Family → List Family
families_left key parent families = left_in (parent_key key parent) key.name (row_at family_key (parent_key key parent) families) families

abbrev pub families_left_by : SnapKey → Option Text → List Family → List Family
families_left_by key None families = families
families_left_by key (Some parent) families = families_left key parent families

-- the families without a snapshot that goes
abbrev pub families_visited : List Family → SnapRow → List Family
families_visited families row = families_left_by row.key row.parent families
