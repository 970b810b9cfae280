use Rattle.meta_types.proofs.AgainStored.{a_second_collection_changes_nothing as changes_nothing}
use Rattle.meta_types.proofs.laws.a_second_collection_changes_nothing.Goals as goal

-- the paths of the collected store are those of the store, so what remained remains
pub returns : goal.returns
returns c = changes_nothing
