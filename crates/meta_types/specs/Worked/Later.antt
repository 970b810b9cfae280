-- Whole scripts: images that expire, and a removal with a collection. Ours,
-- unless a source stands beside.
use Rattle.std.specs.Prelude.{◌≡◌, [], ◌∷◌, codes}
use Rattle.meta_types.specs.Rows.{State, empty_store}
use Rattle.meta_types.specs.Backends.{no_objects}
use Rattle.meta_types.specs.Reports.{Collects}
use Rattle.meta_types.specs.Requests.{removal_outcome}
use Rattle.meta_types.specs.Histories.{Step}
use Rattle.meta_types.specs.Steps.{refused, reported, answered, answer_to, remove_collect}
use Rattle.meta_types.specs.Worked.{after_all, a, x, i, l, first_of_march, first_of_march_text, just_after, named, adds_image, adds, adds_held, adds_lease, one_namespace, nothing_removed, report_with, plain_report}
use Rattle.meta_types.specs.declared.fault.Fault.TheVariants.{NotFound}
use Rattle.meta_types.specs.declared.reply.Reply.TheVariants.{Names}
use Rattle.meta_types.specs.declared.request.Request.TheVariants.{NsAdd, LeaseList, Profile}
use Rattle.meta_types.specs.declared.request.Removal.TheVariants as Removing

-- a store in which images expire
abbrev pub expiring : State
expiring = after_all empty_store (Profile 2 ∷ [])

-- the report of a collection in profile 2 names profile 2, also if nothing is stored
abbrev pub AnEmptyStoreIsCollected : Type 0
AnEmptyStoreIsCollected = Collects expiring first_of_march no_objects (report_with 2 no_objects (record one_namespace { namespaces = 0 }) nothing_removed 0) expiring

-- an image that ends on the first of March, with its content
abbrev pub image_to_expire : State
image_to_expire = after_all expiring (NsAdd x ∷ adds a [] ∷ adds_image a ((codes "containerd.io/gc.expire", first_of_march_text) ∷ []) ∷ [])

-- at the very moment of its expiry the image still holds its content
abbrev pub AnImageHoldsAtItsExpiry : Type 0
AnImageHoldsAtItsExpiry = Collects image_to_expire first_of_march no_objects (report_with 2 no_objects (record one_namespace { content = 1; images = 1 }) nothing_removed 1) image_to_expire

-- a namespace with nothing in it
abbrev pub expired_image_gone : State
expired_image_gone = after_all expiring (NsAdd x ∷ [])

-- a nanosecond later the image and its content go
abbrev pub AnExpiredImageGoes : Type 0
AnExpiredImageGoes = Collects image_to_expire just_after no_objects
    (report_with 2 (record no_objects { blobs = a ∷ [] }) one_namespace (record nothing_removed { content = (x, a) ∷ []; images = (x, i) ∷ [] }) 0)
    expired_image_gone

-- content that a lease holds
abbrev pub under_lease : State
under_lease = after_all empty_store (NsAdd x ∷ adds_lease [] ∷ adds_held a ∷ [])

-- the store without the lease's row
abbrev pub without_lease_row : State
without_lease_row = (removal_outcome under_lease (Removing.Lease (named l))).after

-- what is left of it
abbrev pub without_lease : State
without_lease = after_all empty_store (NsAdd x ∷ [])

-- the lease's removal with a collection is one event: the content goes with it, the lease isn't
-- reported, and a second one finds none
abbrev pub ALeaseGoesWithACollection : Type 0
ALeaseGoesWithACollection =
    Step under_lease (remove_collect (Removing.Lease (named l)) first_of_march 1) no_objects
    (reported (plain_report (record no_objects { blobs = a ∷ [] }) one_namespace (record nothing_removed { content = (x, a) ∷ [] }) 0)) without_lease
    × Step without_lease (remove_collect (Removing.Lease (named l)) first_of_march 1) no_objects (refused NotFound) without_lease
    × (answer_to without_lease (LeaseList x) ≡ answered (Names []))
