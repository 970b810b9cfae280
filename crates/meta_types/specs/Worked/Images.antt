-- Whole scripts with images, content and leases: the report of a collection, and the store that it
-- leaves. Ours, unless a source stands beside.
use Rattle.std.specs.Prelude.{List, [], ◌∷◌, ◌++◌, codes}
use Rattle.meta_types.specs.Text.{Text}
use Rattle.meta_types.specs.Rows.{State, empty_store}
use Rattle.meta_types.specs.Backends.{no_objects}
use Rattle.meta_types.specs.Reports.{Collects}
use Rattle.meta_types.specs.Steps.{after}
use Rattle.meta_types.specs.Worked.{after_all, a, b, c, x, i, l, first_of_march, first_of_march_text, just_after, named, adds_image, adds, adds_held, adds_lease, holds, content_label, one_namespace, nothing_removed, plain_report}
use Rattle.meta_types.specs.declared.request.Request.{Request}
use Rattle.meta_types.specs.declared.request.Request.TheVariants.{NsAdd, ImageRemove}

-- content that an image leads to, and other content
abbrev pub with_image : State
with_image = after_all empty_store (NsAdd x ∷ adds b [] ∷ adds a (content_label b) ∷ adds c [] ∷ adds_image a [] ∷ [])

-- the same without the other content
abbrev pub image_alone : State
image_alone = after_all empty_store (NsAdd x ∷ adds b [] ∷ adds a (content_label b) ∷ adds_image a [] ∷ [])

-- content that an image leads to stays; other content goes, as if it had never been added
abbrev pub AnImageKeepsItsContent : Type 0
AnImageKeepsItsContent = Collects with_image first_of_march no_objects
    (plain_report (record no_objects { blobs = c ∷ [] }) (record one_namespace { content = 2; images = 1 }) (record nothing_removed { content = (x, c) ∷ [] }) 2) image_alone

-- two blobs that reference each other
abbrev pub cycle : List Request
cycle = adds a (content_label b) ∷ adds b (content_label a) ∷ []

-- the cycle, and nothing that leads to it
abbrev pub cycle_alone : State
cycle_alone = after_all empty_store (NsAdd x ∷ cycle)

-- a namespace with nothing in it
abbrev pub namespace_alone : State
namespace_alone = after_all empty_store (NsAdd x ∷ [])

-- a cycle that nothing leads to goes
abbrev pub ACycleGoes : Type 0
ACycleGoes = Collects cycle_alone first_of_march no_objects
    (plain_report (record no_objects { blobs = a ∷ b ∷ [] }) one_namespace (record nothing_removed { content = (x, a) ∷ (x, b) ∷ [] }) 0) namespace_alone

-- the cycle under an image
abbrev pub cycle_under_image : State
cycle_under_image = after_all empty_store (NsAdd x ∷ cycle ++ (adds_image b [] ∷ []))

-- a cycle stays if an image leads into it
abbrev pub ACycleUnderAnImageStays : Type 0
ACycleUnderAnImageStays = Collects cycle_under_image first_of_march no_objects
    (plain_report no_objects (record one_namespace { content = 2; images = 1 }) nothing_removed 2) cycle_under_image

-- the label of a flat lease
abbrev pub flat_label : List (Text × Text)
flat_label = (codes "containerd.io/gc.flat", codes "t") ∷ []

-- content that an image holds in full and a lease holds flat
abbrev pub held_in_both_modes : State
held_in_both_modes = after_all empty_store (NsAdd x ∷ adds b [] ∷ adds a (content_label b) ∷ adds_lease flat_label ∷ holds (codes "content") a ∷ adds_image a [] ∷ [])

-- content that an image and a flat lease hold is scanned in both modes, and its labels are followed
abbrev pub BothModesAreScanned : Type 0
BothModesAreScanned = Collects held_in_both_modes first_of_march no_objects
    (plain_report no_objects (record one_namespace { content = 2; images = 1; leases = 1 }) nothing_removed 3) held_in_both_modes

-- the same after the image was removed
abbrev pub image_removed : State
image_removed = after held_in_both_modes (ImageRemove (named i))

-- content that a flat lease holds, alone
abbrev pub held_flat : State
held_flat = after_all empty_store (NsAdd x ∷ adds a (content_label b) ∷ adds_lease flat_label ∷ holds (codes "content") a ∷ [])

-- once the image has gone, the flat lease keeps the content and not what its labels name
abbrev pub AFlatLeaseFollowsNoLabels : Type 0
AFlatLeaseFollowsNoLabels = Collects image_removed first_of_march no_objects
    (plain_report (record no_objects { blobs = b ∷ [] }) (record one_namespace { content = 1; leases = 1 }) (record nothing_removed { content = (x, b) ∷ [] }) 1) held_flat

-- a lease that ends on the first of March, with content
abbrev pub leased : State
leased = after_all empty_store (NsAdd x ∷ adds_lease ((codes "containerd.io/gc.expire", first_of_march_text) ∷ []) ∷ adds_held a ∷ [])

-- at the very moment of its expiry the lease still holds its content
abbrev pub ALeaseHoldsAtItsExpiry : Type 0
ALeaseHoldsAtItsExpiry = Collects leased first_of_march no_objects (plain_report no_objects (record one_namespace { content = 1; leases = 1 }) nothing_removed 1) leased

-- a nanosecond later the lease and its content go
abbrev pub AnExpiredLeaseGoes : Type 0
AnExpiredLeaseGoes = Collects leased just_after no_objects
    (plain_report (record no_objects { blobs = a ∷ [] }) one_namespace (record nothing_removed { content = (x, a) ∷ []; leases = (x, l) ∷ [] }) 0) namespace_alone
