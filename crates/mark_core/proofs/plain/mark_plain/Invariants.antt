use Rattle.std.proofs.Common.{◌-◌}
use Rattle.mark_core.specs.Bits.{HasRoom}
use Rattle.mark_core.specs.Reach.{node_count}
use Rattle.mark_core.proofs.Explores.{Explores}
use Rattle.mark_core.proofs.plain.mark_plain.Given as goal

-- the nodes before the place are scanned, and each node has room
abbrev pub invariant-loop-next : goal.invariant-loop-next
invariant-loop-next l = record {
  explores : Explores l.graph l.found.order.items l.next;
  room : HasRoom (node_count l.graph) l.found.marks;
}

-- no more nodes are found than there are
abbrev pub decreases-loop-next : goal.decreases-loop-next
decreases-loop-next l = node_count l.graph - l.next
