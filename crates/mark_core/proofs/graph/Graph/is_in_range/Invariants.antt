use Rattle.std.proofs.Common.{◌<◌, ℕ}
use Rattle.std.specs.Prelude.{All}
use Rattle.mark_core.specs.Reach.{node_count, targets}
use Rattle.mark_core.proofs.graph.Graph.is_in_range.Given as goal

-- the nodes before the place have passed the test
abbrev pub invariant-loop-node : goal.invariant-loop-node
invariant-loop-node l =
    (k : ℕ) → k < l.node → All (λ b. b < node_count l.self) (targets l.self k)
