use Rattle.meta_types.proofs.WorkedFailureScripts.{the_first_removal_fails, the_second_removal_fails, the_third_removal_fails, the_last_removal_fails, a_later_collection_removes_the_rest}
use Rattle.meta_types.proofs.laws.a_failed_removal_keeps_what_is_above.Goals as goal

-- computed
pub returns-clause-the_first_removal_fails : goal.returns-clause-the_first_removal_fails
returns-clause-the_first_removal_fails c = the_first_removal_fails

-- computed
pub returns-clause-the_second_removal_fails : goal.returns-clause-the_second_removal_fails
returns-clause-the_second_removal_fails c = the_second_removal_fails

-- computed
pub returns-clause-the_third_removal_fails : goal.returns-clause-the_third_removal_fails
returns-clause-the_third_removal_fails c = the_third_removal_fails

-- computed
pub returns-clause-the_last_removal_fails : goal.returns-clause-the_last_removal_fails
returns-clause-the_last_removal_fails c = the_last_removal_fails

-- computed
pub returns-clause-a_later_collection_removes_the_rest : goal.returns-clause-a_later_collection_removes_the_rest
returns-clause-a_later_collection_removes_the_rest c = a_later_collection_removes_the_rest
