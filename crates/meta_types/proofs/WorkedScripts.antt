-- The worked scripts, computed.
use Rattle.std.proofs.Common.{refl, pos}
use Rattle.meta_types.specs.Worked.{first_of_march, just_after}
use Rattle.meta_types.specs.Worked.Images.{AnImageKeepsItsContent, ACycleGoes, ACycleUnderAnImageStays, BothModesAreScanned, AFlatLeaseFollowsNoLabels, ALeaseHoldsAtItsExpiry, AnExpiredLeaseGoes, cycle_alone, cycle_under_image, held_flat, held_in_both_modes, image_alone, image_removed, leased, namespace_alone, with_image}
use Rattle.meta_types.specs.Worked.Objects.{AFlatLeaseKeepsParents, ChildrenGoBeforeParents, AnIngestHoldsForADay, AnIngestGoesAfterADay, OnlyReferenceKeysReference, ContainersAndRootLabelsHold, chain_alone, chain_and_content, ingesting, many_keys_alone, many_keys_and_content, rooted, two_chains, used_up_to}
use Rattle.meta_types.proofs.Works.{collects}

-- an image's content, and the content that this references, stay, and other content is removed
pub an_image_keeps_its_content : AnImageKeepsItsContent
an_image_keeps_its_content = collects with_image first_of_march 3 _ image_alone refl refl refl

-- two contents that reference each other, and that nothing else leads to, are removed
pub a_cycle_goes : ACycleGoes
a_cycle_goes = collects cycle_alone first_of_march 0 _ namespace_alone refl refl refl

-- two contents that reference each other stay if an image leads to one of them
pub a_cycle_under_an_image_stays : ACycleUnderAnImageStays
a_cycle_under_an_image_stays = collects cycle_under_image first_of_march 3 _ cycle_under_image refl refl refl

-- content that an image and a flat lease hold is scanned in both modes, and its labels are followed
pub both_modes_are_scanned : BothModesAreScanned
both_modes_are_scanned = collects held_in_both_modes first_of_march 3 _ held_in_both_modes refl refl refl

-- a flat lease keeps its content, but not the content that a label of it names
pub a_flat_lease_follows_no_labels : AFlatLeaseFollowsNoLabels
a_flat_lease_follows_no_labels = collects image_removed first_of_march 2 _ held_flat refl refl refl

-- at the moment of its expiry a lease and its content stay
pub a_lease_holds_at_its_expiry : ALeaseHoldsAtItsExpiry
a_lease_holds_at_its_expiry = collects leased first_of_march 2 _ leased refl refl refl

-- a nanosecond after its expiry a lease and its content are removed
pub an_expired_lease_goes : AnExpiredLeaseGoes
an_expired_lease_goes = collects leased just_after 0 _ namespace_alone refl refl refl

-- a flat lease on a snapshot keeps all its parents, but not the content that a label names
pub a_flat_lease_keeps_parents : AFlatLeaseKeepsParents
a_flat_lease_keeps_parents = collects chain_and_content first_of_march 5 _ chain_alone refl refl refl

-- two chains that nothing holds are removed by snapshotter, the deepest snapshot first
pub children_go_before_parents : ChildrenGoBeforeParents
children_go_before_parents = collects two_chains first_of_march 0 _ (used_up_to 9) refl refl refl

-- an ingest stays, with the content that it expects, up to the end of its day
pub an_ingest_holds_for_a_day : AnIngestHoldsForADay
an_ingest_holds_for_a_day = collects ingesting (pos 1709337600000000000) 2 _ ingesting refl refl refl

-- a nanosecond after its day an ingest is removed, with the content that it expects
pub an_ingest_goes_after_a_day : AnIngestGoesAfterADay
an_ingest_goes_after_a_day = collects ingesting (pos 1709337600000000001) 0 _ (used_up_to 2) refl refl refl

-- only labels whose key is one of references keep content, and a missing digest does no harm
pub only_reference_keys_reference : OnlyReferenceKeysReference
only_reference_keys_reference = collects many_keys_and_content first_of_march 3 _ many_keys_alone refl refl refl

-- a container's snapshot stays, and so do content with a root label and the snapshot that it names
pub containers_and_root_labels_hold : ContainersAndRootLabelsHold
containers_and_root_labels_hold = collects rooted first_of_march 3 _ rooted refl refl refl
