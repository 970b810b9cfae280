-- A whole script with a device that fails: a chain of four snapshots that nothing holds, whose
-- device passes some calls and then fails one. Ours, unless a source stands beside.
use Rattle.std.specs.Prelude.{ℕ, List, [], ◌∷◌, Some, None}
use Rattle.meta_types.specs.Text.{Text}
use Rattle.meta_types.specs.Rows.{State, BackSnap, empty_store}
use Rattle.meta_types.specs.Backends.{BackNames, no_objects}
use Rattle.meta_types.specs.Reports.{Collects}
use Rattle.meta_types.specs.Worked.{after_all, x, overlayfs, first_of_march, chain, one_namespace, nothing_removed, plain_report}
use Rattle.meta_types.specs.declared.request.Request.TheVariants.{NsAdd}
use Rattle.meta_types.specs.Worked.Objects.{chain_object, chain_names, used_up_to}

-- four snapshots, one over the other, that nothing holds
abbrev pub free_chain : State
free_chain = after_all empty_store (NsAdd x ∷ chain overlayfs [])

-- snapshots of the chain, as a report has them
abbrev pub snapshots_named : List (Text × ℕ) → BackNames
snapshots_named names = record no_objects { snapshots = names }

-- the store without the chain's rows, where these objects are left
abbrev pub with_objects : List BackSnap → State
with_objects objects = record (used_up_to 5) { backends = record { blobs = []; snapshots = objects; ingests = [] } }

-- a collection of the chain removes these objects, the removal of this
-- one fails, and these are left
abbrev pub FailsAt : List (Text × ℕ) → Text × ℕ → List BackSnap → Type 0
FailsAt removed failed left = Collects free_chain first_of_march (snapshots_named (failed ∷ []))
    (record (plain_report (snapshots_named removed) one_namespace (record nothing_removed { snapshots = chain_names overlayfs }) 0) { failed = snapshots_named (failed ∷ []) })
    (with_objects left)

-- if the first call fails, no object is removed: a parent isn't tried before its child has gone
abbrev pub TheFirstRemovalFails : Type 0
TheFirstRemovalFails = FailsAt [] (overlayfs, 4) (chain_object 1 None ∷ chain_object 2 (Some 1) ∷ chain_object 3 (Some 2) ∷ chain_object 4 (Some 3) ∷ [])

-- if the second call fails, only the last object is removed
abbrev pub TheSecondRemovalFails : Type 0
TheSecondRemovalFails = FailsAt ((overlayfs, 4) ∷ []) (overlayfs, 3) (chain_object 1 None ∷ chain_object 2 (Some 1) ∷ chain_object 3 (Some 2) ∷ [])

-- if the third call fails, the last two objects are removed
abbrev pub TheThirdRemovalFails : Type 0
TheThirdRemovalFails = FailsAt ((overlayfs, 4) ∷ (overlayfs, 3) ∷ []) (overlayfs, 2) (chain_object 1 None ∷ chain_object 2 (Some 1) ∷ [])

-- if the fourth call fails, all objects but the first are removed
abbrev pub TheLastRemovalFails : Type 0
TheLastRemovalFails = FailsAt ((overlayfs, 4) ∷ (overlayfs, 3) ∷ (overlayfs, 2) ∷ []) (overlayfs, 1) (chain_object 1 None ∷ [])

-- a later collection removes the two objects that the third call left, though no row names them any
-- more
abbrev pub ALaterCollectionRemovesTheRest : Type 0
ALaterCollectionRemovesTheRest = Collects (with_objects (chain_object 1 None ∷ chain_object 2 (Some 1) ∷ [])) first_of_march no_objects
    (plain_report (snapshots_named ((overlayfs, 2) ∷ (overlayfs, 1) ∷ [])) one_namespace nothing_removed 0) (used_up_to 5)
