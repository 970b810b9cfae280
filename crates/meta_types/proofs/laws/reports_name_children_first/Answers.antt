use Rattle.meta_types.proofs.ChildrenFirst.{removed_snapshots_are_childfirst, planned_snapshots_are_childfirst}
use Rattle.meta_types.proofs.laws.reports_name_children_first.Goals as goal

-- the removed snapshots stand in the order of depths
pub returns-clause-removed_snapshots_are_childfirst : goal.returns-clause-removed_snapshots_are_childfirst
returns-clause-removed_snapshots_are_childfirst c = removed_snapshots_are_childfirst

-- the removed snapshots stand in the order of depths
pub returns-clause-planned_snapshots_are_childfirst : goal.returns-clause-planned_snapshots_are_childfirst
returns-clause-planned_snapshots_are_childfirst c = planned_snapshots_are_childfirst
