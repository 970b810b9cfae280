-- The worked scripts with images that expire and a removal with a collection, computed.
use Rattle.std.proofs.Common.{refl}
use Rattle.meta_types.specs.Worked.{first_of_march, just_after}
use Rattle.meta_types.specs.Worked.Later.{AnEmptyStoreIsCollected, AnImageHoldsAtItsExpiry, AnExpiredImageGoes, ALeaseGoesWithACollection, expiring, image_to_expire, expired_image_gone, without_lease, without_lease_row}
use Rattle.meta_types.proofs.Works.{collects}

-- the report of an empty store in profile 2 names profile 2 and no removed row
pub an_empty_store_is_collected : AnEmptyStoreIsCollected
an_empty_store_is_collected = collects expiring first_of_march 0 _ expiring refl refl refl

-- at the moment of its expiry an image and its content stay
pub an_image_holds_at_its_expiry : AnImageHoldsAtItsExpiry
an_image_holds_at_its_expiry = collects image_to_expire first_of_march 2 _ image_to_expire refl refl refl

-- a nanosecond after its expiry an image and its content are removed
pub an_expired_image_goes : AnExpiredImageGoes
an_expired_image_goes = collects image_to_expire just_after 0 _ expired_image_gone refl refl refl

-- a lease's removal with a collection removes the content that it held, and reports only the
-- content
pub a_lease_goes_with_a_collection : ALeaseGoesWithACollection
a_lease_goes_with_a_collection = ((refl, collects without_lease_row first_of_march 0 _ without_lease refl refl refl), (refl, refl, refl), refl)
