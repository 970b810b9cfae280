use Rattle.meta_types.proofs.WorkedScripts.{a_flat_lease_keeps_parents, children_go_before_parents, containers_and_root_labels_hold}
use Rattle.meta_types.proofs.laws.snapshots_keep_their_parents.Goals as goal

-- computed
pub returns-clause-a_flat_lease_keeps_parents : goal.returns-clause-a_flat_lease_keeps_parents
returns-clause-a_flat_lease_keeps_parents c = a_flat_lease_keeps_parents

-- computed
pub returns-clause-children_go_before_parents : goal.returns-clause-children_go_before_parents
returns-clause-children_go_before_parents c = children_go_before_parents

-- computed
pub returns-clause-containers_and_root_labels_hold : goal.returns-clause-containers_and_root_labels_hold
returns-clause-containers_and_root_labels_hold c = containers_and_root_labels_hold
