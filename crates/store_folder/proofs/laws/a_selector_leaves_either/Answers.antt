use Rattle.store_folder.proofs.Selecting.{selector_left}
use Rattle.store_folder.proofs.laws.a_selector_leaves_either.Goals as goal

-- the old selector stands there, or the new one
pub returns : goal.returns
returns c = record { either = selector_left c.files_of_a_store_fit.ensures.turns }
