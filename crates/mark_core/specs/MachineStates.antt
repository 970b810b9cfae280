-- What the code's machine state stands for. Ours, unless a source stands beside.
use Rattle.std.specs.Prelude.{Bool, true, false}
use Rattle.mark_core.specs.declared.graph.Graph.{Graph}
use Rattle.mark_core.specs.declared.event.MarkEvent.{MarkEvent}
use Rattle.mark_core.specs.declared.machine_state.MachineState.{MachineState}
use Rattle.mark_core.specs.Machine.{Machine, Step, IsForbidden}

-- the state that the code's machine stands for: its bitmap says the same as its list, and is left
-- out
abbrev pub machine_of : MachineState → Machine
machine_of b = record { claimed = b.found.order.items; workers = b.worker_states.items }

-- an event is answered: it is done, or it isn't allowed
abbrev pub Answers : Graph → MarkEvent → MachineState → Bool → MachineState → Type 0
Answers g event old true new = Step g (machine_of old) event (machine_of new)
Answers g event old false new = IsForbidden g (machine_of old) event
