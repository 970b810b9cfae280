use Rattle.std.proofs.Common.{◌≡◌, take}
use Rattle.mark_core.specs.Machine.{machine_start, Run}
use Rattle.mark_core.specs.Bits.{HasRoom}
use Rattle.mark_core.specs.Reach.{node_count}
use Rattle.mark_core.specs.MachineStates.{machine_of}
use Rattle.mark_core.proofs.machine.replay.Given as goal

-- the events before the place are done
abbrev pub invariant-loop-event : goal.invariant-loop-event
invariant-loop-event l = record {
  place : l.place ≡ l.event-index;
  room : HasRoom (node_count l.graph) l.machine_state.found.marks;
  run : Run l.graph (machine_start l.graph l.workers) (take l.event-index l.events)
      (machine_of l.machine_state);
}
