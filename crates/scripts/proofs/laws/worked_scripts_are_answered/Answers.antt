use Rattle.scripts.proofs.WorkedScripts.{requests_are_answered, a_collection_is_answered}
use Rattle.scripts.proofs.WorkedEnds.{an_end_is_explained}
use Rattle.scripts.proofs.laws.worked_scripts_are_answered.Goals as goal

-- line by line
pub returns-clause-requests : goal.returns-clause-requests
returns-clause-requests c = requests_are_answered

-- the report is that of the worked store
pub returns-clause-collection : goal.returns-clause-collection
returns-clause-collection c = a_collection_is_answered

-- each answer explains the content at its moment
pub returns-clause-explanation : goal.returns-clause-explanation
returns-clause-explanation c = an_end_is_explained
