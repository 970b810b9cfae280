use Rattle.scripts.proofs.Outcomes.{each_event_has_this_step, no_event_has_another_step}
use Rattle.scripts.proofs.laws.outputs_go_by_the_steps_of_the_definitions.Goals as goal

-- by the test that tells where paths end
pub returns-clause-step : goal.returns-clause-step
returns-clause-step c = each_event_has_this_step

-- two such tests agree
pub returns-clause-alone : goal.returns-clause-alone
returns-clause-alone c = no_event_has_another_step
