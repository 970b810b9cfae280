use Rattle.meta_types.proofs.EachKind.{divides_the_rows, divides_all, tells_what_a_collection_would}
use Rattle.meta_types.proofs.laws.collections_divide_each_kind.Goals as goal

-- each list left is a filter, and the report's is the other half
pub returns-clause-rows : goal.returns-clause-rows
returns-clause-rows c = divides_the_rows

-- and where nothing failed, an object stays by its owner alone
pub returns-clause-all : goal.returns-clause-all
returns-clause-all c = divides_all

-- a dry run is the report of the same collection
pub returns-clause-dry_runs : goal.returns-clause-dry_runs
returns-clause-dry_runs c = tells_what_a_collection_would
