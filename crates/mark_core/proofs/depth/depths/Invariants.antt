use Rattle.std.proofs.Common.{◌≡◌, ◌-◌, length}
use Rattle.mark_core.specs.Reach.{node_count}
use Rattle.mark_core.proofs.DepthSearches.{Searched}
use Rattle.mark_core.proofs.depth.depths.Given as goal

-- the targets of all before the place were seen
abbrev pub invariant-loop-next : goal.invariant-loop-next
invariant-loop-next l = record {
  count : length l.depths.items ≡ node_count l.graph;
  searched : Searched l.graph l.own l.held l.queue.items l.depths.items l.next;
}

-- no more nodes are seen than there are
abbrev pub decreases-loop-next : goal.decreases-loop-next
decreases-loop-next l = node_count l.graph - l.next
