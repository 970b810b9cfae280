use Rattle.gc_graph.proofs.MarksDecide.{tells}
use Rattle.gc_graph.proofs.laws.marks_tell_where_paths_end.Goals as goal

-- a thing's number is reached exactly where a path ends in the thing
pub returns : goal.returns
returns c = λ records at book graph marks built marked. tells records at book graph built marks marked
