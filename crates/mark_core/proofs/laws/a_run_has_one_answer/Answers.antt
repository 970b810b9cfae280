use Rattle.mark_core.proofs.OneAnswer.{run_one, run_not_bad, bad_one}
use Rattle.mark_core.proofs.laws.a_run_has_one_answer.Goals as goal

-- each event leads to one state
pub returns-clause-state : goal.returns-clause-state
returns-clause-state c = run_one

-- the earlier of two places would be allowed in the run to the later
pub returns-clause-place : goal.returns-clause-place
returns-clause-place c = bad_one

-- a run allows each of its events
pub returns-clause-never_both : goal.returns-clause-never_both
returns-clause-never_both c = run_not_bad
