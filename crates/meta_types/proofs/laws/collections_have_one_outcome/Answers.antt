use Rattle.meta_types.proofs.Exists.{a_test_tells}
use Rattle.meta_types.proofs.Once.{one_report, one_state, one_plan}
use Rattle.meta_types.proofs.laws.collections_have_one_outcome.Goals as goal

-- some pass over all things finds nothing more
pub returns-clause-some_test_tells : goal.returns-clause-some_test_tells
returns-clause-some_test_tells c = λ records at. a_test_tells records at

-- two tests that tell agree
pub returns-clause-a_collection_has_one_outcome : goal.returns-clause-a_collection_has_one_outcome
returns-clause-a_collection_has_one_outcome c = λ state at failed r s m n one two. (one_report state at failed r s m n one two, one_state state at failed r s m n one two)

-- two tests that tell agree
pub returns-clause-a_dry_run_has_one_report : goal.returns-clause-a_dry_run_has_one_report
returns-clause-a_dry_run_has_one_report c = λ state at r s one two. one_plan state at r s one two
