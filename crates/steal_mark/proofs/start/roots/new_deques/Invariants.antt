use Rattle.std.proofs.Common.{◌≡◌, length}
use Rattle.std.specs.Prelude.{All, Some}
use Rattle.steal_mark.specs.Starting.{IsFresh}
use Rattle.steal_mark.proofs.start.roots.new_deques.Given as goal

-- the counted deques are made, all new
abbrev pub invariant-loop-count : goal.invariant-loop-count
invariant-loop-count l = (length l.deques.items ≡ l.count) × All (IsFresh l.fn.graph) l.deques.items

-- the graph of the marking
abbrev pub ghosts-new_deque : goal.ghosts-new_deque
ghosts-new_deque a = record { graph = Some a._graph.now }
