use Rattle.std.proofs.Common.{◌<◌, sym, subst, arith}
use Rattle.std.proofs.lemmas.Bool.Decides.{nat_tests}
use Rattle.mark_core.specs.MachineStates.{machine_of}
use Rattle.mark_core.proofs.Keeping.{Keeps}
use Rattle.mark_core.proofs.Starting.{start_keeps}
use Rattle.mark_core.proofs.Ending.{idle_marked}
use Rattle.mark_core.proofs.machine.start.Goals as goal

-- a wrong number was refused before
some_workers : (c : goal.In_ok-machine_state) → 0 < c.args.workers
some_workers c = grind (arith, nat_tests)

-- the state is the machine's start, which is sound
keeps : (c : goal.In_ok-machine_state) → Keeps c.args.graph.now (machine_of c.in_ok-machine_state.machine_state)
keeps c =
    subst (Keeps c.args.graph.now) (sym c.in_ok-machine_state.ensures.start)
    (start_keeps c.args.graph.now c.args.workers (some_workers c))

-- the start is sound
pub returns-clause-sound : goal.returns-clause-sound
returns-clause-sound c = (keeps c).sound

-- with nothing to be scanned there is no root
pub returns-clause-marked : goal.returns-clause-marked
returns-clause-marked c = idle_marked c.args.graph.now (machine_of c.in_ok-machine_state.machine_state) (keeps c)
