use Rattle.std.proofs.Common.{◌≡◌, replicate}
use Rattle.mark_core.specs.Machine.{idle}
use Rattle.mark_core.proofs.machine_state.new_worker_states.Given as goal

-- each worker so far is idle
abbrev pub invariant-loop : goal.invariant-loop
invariant-loop l = l.worker_states.items ≡ replicate l.counter idle
