use Rattle.meta_types.proofs.WorkedLaterScripts.{a_lease_goes_with_a_collection}
use Rattle.meta_types.proofs.laws.a_lease_goes_with_a_collection.Goals as goal

-- computed
pub returns : goal.returns
returns c = a_lease_goes_with_a_collection
