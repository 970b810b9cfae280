use Rattle.steal_mark.specs.Closing.{ids_of}
use Rattle.steal_mark.proofs.Spreads.{Opens}
use Rattle.steal_mark.proofs.start.passes.spread.Given as goal

-- the first k rows have their pass
abbrev pub invariant-loop-k : goal.invariant-loop-k
invariant-loop-k l = Opens l.graph (ids_of l.deques) l.k l.initial.deque l.deque l.initial.rows l.rows
