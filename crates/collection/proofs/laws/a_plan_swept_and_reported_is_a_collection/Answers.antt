use Rattle.collection.proofs.SweptPlans.{a_swept_plan_is_a_collection, a_plan_is_a_dry_run}
use Rattle.collection.proofs.laws.a_plan_swept_and_reported_is_a_collection.Goals as goal

-- rows and objects left by the sweeps, and the report, are those of a collection
pub returns-clause-collects : goal.returns-clause-collects
returns-clause-collects c = a_swept_plan_is_a_collection

-- a plan's report is that of a dry run
pub returns-clause-plans : goal.returns-clause-plans
returns-clause-plans c = a_plan_is_a_dry_run
