-- The worked script with a device that fails, computed.
use Rattle.std.proofs.Common.{refl, [], ◌∷◌}
use Rattle.std.specs.Prelude.{Some, None}
use Rattle.meta_types.specs.Worked.{first_of_march, overlayfs}
use Rattle.meta_types.specs.Worked.Objects.{chain_object, used_up_to}
use Rattle.meta_types.specs.Worked.Failures.{TheFirstRemovalFails, TheSecondRemovalFails, TheThirdRemovalFails, TheLastRemovalFails, ALaterCollectionRemovesTheRest, free_chain, snapshots_named, with_objects}
use Rattle.meta_types.proofs.Works.{collects, collects_but}

-- the device fails the first call: no object of the chain is removed
pub the_first_removal_fails : TheFirstRemovalFails
the_first_removal_fails = collects_but free_chain first_of_march 0 (snapshots_named ((overlayfs, 4) ∷ [])) _
    (with_objects (chain_object 1 None ∷ chain_object 2 (Some 1) ∷ chain_object 3 (Some 2) ∷ chain_object 4 (Some 3) ∷ [])) refl
    (record { blobs = refl; ingests = refl; snapshots = refl; apart = refl }) refl refl

-- the device fails the second call: only the last object of the chain is removed
pub the_second_removal_fails : TheSecondRemovalFails
the_second_removal_fails = collects_but free_chain first_of_march 0 (snapshots_named ((overlayfs, 3) ∷ [])) _
    (with_objects (chain_object 1 None ∷ chain_object 2 (Some 1) ∷ chain_object 3 (Some 2) ∷ [])) refl
    (record { blobs = refl; ingests = refl; snapshots = refl; apart = refl }) refl refl

-- the device fails the third call: the last two objects are removed
pub the_third_removal_fails : TheThirdRemovalFails
the_third_removal_fails = collects_but free_chain first_of_march 0 (snapshots_named ((overlayfs, 2) ∷ [])) _
    (with_objects (chain_object 1 None ∷ chain_object 2 (Some 1) ∷ [])) refl
    (record { blobs = refl; ingests = refl; snapshots = refl; apart = refl }) refl refl

-- the device fails the fourth call: all objects but the first are removed
pub the_last_removal_fails : TheLastRemovalFails
the_last_removal_fails = collects_but free_chain first_of_march 0 (snapshots_named ((overlayfs, 1) ∷ [])) _
    (with_objects (chain_object 1 None ∷ [])) refl
    (record { blobs = refl; ingests = refl; snapshots = refl; apart = refl }) refl refl

-- a later collection, on a device that works, removes the two objects that were left
pub a_later_collection_removes_the_rest : ALaterCollectionRemovesTheRest
a_later_collection_removes_the_rest =
    collects (with_objects (chain_object 1 None ∷ chain_object 2 (Some 1) ∷ [])) first_of_march 0 _ (used_up_to 5) refl refl refl
