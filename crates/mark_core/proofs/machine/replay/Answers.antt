use Rattle.std.proofs.Common.{◌<◌, ◌+◌, ℕ, List, get_or, take, sym, ap, subst, rules, arith}
use Rattle.std.proofs.lemmas.Bool.Decides.{nat_tests}
use Rattle.mark_core.specs.declared.graph.Graph.{Graph}
use Rattle.mark_core.specs.declared.event.MarkEvent.{MarkEvent}
use Rattle.mark_core.specs.declared.event.MarkEvent.TheVariants.{Look}
use Rattle.mark_core.specs.Machine.{Machine, machine_start, Step, IsForbidden, IsFirstBad}
use Rattle.mark_core.specs.Reach.{node_count}
use Rattle.mark_core.specs.MachineStates.{machine_of, Answers}
use Rattle.mark_core.proofs.BitLemmas.{HasRoom-same}
use Rattle.mark_core.proofs.Keeping.{Keeps}
use Rattle.mark_core.proofs.Starting.{start_keeps}
use Rattle.mark_core.proofs.Ending.{idle_marked}
use Rattle.mark_core.proofs.Running.{run_keeps, run_more, first_bad}
use Rattle.mark_core.proofs.machine.replay.Goals as goal

-- a wrong number was refused before
some_workers : (c : goal.After-loop-event) → 0 < c.args.workers
some_workers c = grind (arith, nat_tests)

-- the events before the place are a run, and this one isn't allowed after them
pub returns-then-not-branch-clause-fault : goal.returns-then-not-branch-clause-fault
returns-then-not-branch-clause-fault c =
    let g : Graph = c.args.graph.now in
    let m : Machine = machine_start g c.args.workers in
    let events : List MarkEvent = c.args.events.now in
    let k : ℕ = c.loop-event.event-index in
    let event : MarkEvent = get_or events k (Look 0 0) in
    let mid : Machine = machine_of c.loop-event.machine_state in
    let bad : IsForbidden g mid event =
    subst (λ b. Answers g event c.loop-event.machine_state b c.step.new.self) c.if-not-branch.true
    c.in_ok-step.ensures.answer in (
      search rules,
      subst (IsFirstBad g m events) (sym c.loop-event.invariant.place)
          (first_bad g m events k (Look 0 0) c.loop-event-test.true mid
          c.loop-event.invariant.run bad),
    )

-- the run goes on by the event
pub loop-event-preserved : goal.loop-event-preserved
loop-event-preserved c =
    let g : Graph = c.args.graph.now in
    let m : Machine = machine_start g c.args.workers in
    let events : List MarkEvent = c.args.events.now in
    let k : ℕ = c.loop-event.event-index in
    let event : MarkEvent = get_or events k (Look 0 0) in
    let mid : Machine = machine_of c.loop-event.machine_state in
    let new : Machine = machine_of c.step.new.self in
    let done : Step g mid event new =
    subst (λ b. Answers g event c.loop-event.machine_state b c.step.new.self) c.if-not-branch.false
    c.in_ok-step.ensures.answer in
    record {
      place = ap (λ i. i + 1) c.loop-event.invariant.place;
      room = HasRoom-same (node_count g) c.loop-event.machine_state.found.marks c.step.new.self.found.marks
          c.in_ok-step.ensures.room c.loop-event.invariant.room;
      run = run_more g m events k (Look 0 0) c.loop-event-test.true mid
          c.loop-event.invariant.run new done;
    }

-- the state is sound, as each state of a run
keeps : (c : goal.After-loop-event) → Keeps c.args.graph.now (machine_of c.loop-event.machine_state)
keeps c =
    let g : Graph = c.args.graph.now in
    let m : Machine = machine_start g c.args.workers in
    run_keeps g m (take c.loop-event.event-index c.args.events.now) (machine_of c.loop-event.machine_state)
    (start_keeps g c.args.workers (some_workers c)) c.loop-event.invariant.run

-- each state of a run is sound
pub returns-clause-sound : goal.returns-clause-sound
returns-clause-sound c = (keeps c).sound

-- with nothing left to be scanned, what was claimed is what is reached
pub returns-clause-marked : goal.returns-clause-marked
returns-clause-marked c = idle_marked c.args.graph.now (machine_of c.loop-event.machine_state) (keeps c)
