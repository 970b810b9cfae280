-- The step of each event is the one that the definitions allow where no device fails. Ours, unless
-- a source stands beside.
use Rattle.std.specs.Prelude.{◌≡◌}
use Rattle.meta_types.specs.Rows.{State}
use Rattle.meta_types.specs.Backends.{no_objects}
use Rattle.meta_types.specs.Steps.{Answer, Event}
use Rattle.meta_types.specs.Histories.{Step}
use Rattle.scripts.specs.EventSteps.{event_step}

-- the computed step of an event is a step of the definitions, without a failure
abbrev pub EachEventHasThisStep : Type 0
EachEventHasThisStep = (state : State) (event : Event) → Step state event no_objects (event_step state event).0 (event_step state event).1

-- an event has no other step without a failure
abbrev pub NoEventHasAnotherStep : Type 0
NoEventHasAnotherStep =
    (state : State) (event : Event) (answer : Answer) (new : State) → Step state event no_objects answer new
    → (answer ≡ (event_step state event).0) × (new ≡ (event_step state event).1)
