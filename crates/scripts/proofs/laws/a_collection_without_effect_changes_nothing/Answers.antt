use Rattle.scripts.proofs.Effects.{collections_without_effect}
use Rattle.scripts.proofs.laws.a_collection_without_effect_changes_nothing.Goals as goal

-- what a report doesn't name is still there
pub returns : goal.returns
returns c = record { same = collections_without_effect }
