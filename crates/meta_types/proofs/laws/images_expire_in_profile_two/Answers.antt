use Rattle.meta_types.proofs.WorkedLaterScripts.{an_empty_store_is_collected, an_image_holds_at_its_expiry, an_expired_image_goes}
use Rattle.meta_types.proofs.laws.images_expire_in_profile_two.Goals as goal

-- computed
pub returns-clause-an_empty_store_is_collected : goal.returns-clause-an_empty_store_is_collected
returns-clause-an_empty_store_is_collected c = an_empty_store_is_collected

-- computed
pub returns-clause-an_image_holds_at_its_expiry : goal.returns-clause-an_image_holds_at_its_expiry
returns-clause-an_image_holds_at_its_expiry c = an_image_holds_at_its_expiry

-- computed
pub returns-clause-an_expired_image_goes : goal.returns-clause-an_expired_image_goes
returns-clause-an_expired_image_goes c = an_expired_image_goes
