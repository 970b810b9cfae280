use Rattle.meta_types.proofs.ObjectsPromised.{owned_objects_stay, unowned_objects_go}
use Rattle.meta_types.proofs.laws.objects_stay_with_their_owners.Goals as goal

-- what stays is a filter by owners and failures
pub returns-clause-owned_objects_stay : goal.returns-clause-owned_objects_stay
returns-clause-owned_objects_stay c = owned_objects_stay

-- and the removed objects are the rest
pub returns-clause-unowned_objects_go : goal.returns-clause-unowned_objects_go
returns-clause-unowned_objects_go c = unowned_objects_go
