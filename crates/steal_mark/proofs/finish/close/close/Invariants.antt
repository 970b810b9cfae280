use Rattle.steal_mark.specs.Closing.{ids_of}
use Rattle.steal_mark.proofs.Closed.{Closes}
use Rattle.steal_mark.proofs.finish.close.close.Given as goal

-- the rows before the index are closed
abbrev pub invariant-loop-row : goal.invariant-loop-row
invariant-loop-row l = Closes l.graph (ids_of l.deques) l.row-index l.initial.deque l.deque l.initial.rows l.rows
