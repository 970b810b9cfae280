use Rattle.gc_graph.specs.Marked.{reached_by}
use Rattle.gc_graph.proofs.MarksDecide.{tells}
use Rattle.table_sweep.proofs.RecordsArrived.{told_in_order}
use Rattle.table_sweep.proofs.ByPaths.{goes}
use Rattle.table_sweep.proofs.laws.a_plan_follows_the_paths.Goals as goal

-- reached marks tell where paths end
pub returns-clause-by_reached_marks : goal.returns-clause-by_reached_marks
returns-clause-by_reached_marks c = λ arrived namespaces back at book graph marks plan built marked masks is.
    let reached = reached_by arrived.profile book marks at in
    record { reached = reached; tells = told_in_order arrived at reached (tells arrived at book graph built marks marked); masks = masks; report_is = is }

-- what doesn't stay is what the test denies
pub returns-clause-by_paths : goal.returns-clause-by_paths
returns-clause-by_paths c = λ records namespaces back at plan apart of. goes records namespaces back at plan apart of
