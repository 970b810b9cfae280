use Rattle.std.proofs.Common.{◌≡◌, take, length}
use Rattle.mark_core.specs.Machine.{deal}
use Rattle.mark_core.proofs.machine_state.deal_out.Given as goal

-- the nodes before the place are dealt out
abbrev pub invariant-loop-node : goal.invariant-loop-node
invariant-loop-node l = record {
  turn : l.turn ≡ l.node-index;
  count : length l.worker_states ≡ l.workers;
  dealt : l.worker_states ≡ deal l.initial.worker_states 0 (take l.node-index l.nodes);
}
