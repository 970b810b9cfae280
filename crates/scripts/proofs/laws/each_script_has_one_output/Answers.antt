use Rattle.scripts.proofs.OneExplanation.{each_explanation_is_one, each_impact_is_one}
use Rattle.scripts.proofs.OneOutput.{each_script_has_one_output}
use Rattle.scripts.proofs.laws.each_script_has_one_output.Goals as goal

-- of all shortest paths one is the first, and each of its steps has one reason
pub returns-clause-explanations : goal.returns-clause-explanations
returns-clause-explanations c = each_explanation_is_one

-- all dry runs of a store at a moment are one
pub returns-clause-impacts : goal.returns-clause-impacts
returns-clause-impacts c = each_impact_is_one

-- line by line
pub returns-clause-output : goal.returns-clause-output
returns-clause-output c = each_script_has_one_output
