use Rattle.scripts.proofs.WholeScripts.{what_answers_is_an_output, each_store_is_sound}
use Rattle.scripts.proofs.laws.what_answers_is_the_output.Goals as goal

-- each line's answer is one of its steps, and each step answers it
pub returns-clause-outputs : goal.returns-clause-outputs
returns-clause-outputs c = what_answers_is_an_output

-- a step leaves a sound store sound
pub returns-clause-stores : goal.returns-clause-stores
returns-clause-stores c = each_store_is_sound
