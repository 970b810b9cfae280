-- Each event has one step.
use Rattle.std.proofs.Common.{◌≡◌, refl, ap, Bool, true, false, ℤ, Option, Some, None}
use Rattle.std.specs.Prelude.{if◌then◌else◌}
use Rattle.std.specs.Option.{option_map_or}
use Rattle.meta_types.specs.Rows.{State}
use Rattle.meta_types.specs.Backends.{no_objects}
use Rattle.meta_types.specs.Collected.{collected_records}
use Rattle.meta_types.specs.Reports.{Report, Collects, Plans}
use Rattle.meta_types.specs.Requests.{removal_outcome}
use Rattle.meta_types.specs.Steps.{Answer, answered, reported, refused, requested, collect, remove_collect, collect_fault, remove_collect_fault}
use Rattle.meta_types.specs.Histories.{Step}
use Rattle.meta_types.specs.declared.fault.Fault.{Fault}
use Rattle.meta_types.specs.Finding.{reached_in}
use Rattle.meta_types.proofs.Finding.{this_test_tells}
use Rattle.meta_types.proofs.NoFailure.{no_failure}
use Rattle.meta_types.proofs.Once.{one_state, one_report, one_plan}
use Rattle.scripts.specs.EventSteps.{collection_report, collected_state, collects, plans}
use Rattle.scripts.specs.EventLaws.{EachEventHasThisStep, NoEventHasAnotherStep}

-- the test tells
pub these_collect : (state : State) (at : ℤ) → Collects state at no_objects (collection_report state at false) (collected_state state at)
these_collect state at = record {
  reached = reached_in state.records at;
  tells = this_test_tells state.records at;
  may_fail = no_failure (collected_records at (reached_in state.records at) state.records).tables state.backends;
  state_is = refl;
  report_is = refl;
}

-- the test tells
pub this_plans : (state : State) (at : ℤ) → Plans state at (collection_report state at true)
this_plans state at = record { reached = reached_in state.records at; tells = this_test_tells state.records at; report_is = refl }

-- two collections of one store report the same
same_report : (state : State) (at : ℤ) (report : Report) (new : State) → Collects state at no_objects report new → report ≡ collection_report state at false
same_report state at report new c = one_report state at no_objects report _ new _ c (these_collect state at)

-- and leave the same
same_state : (state : State) (at : ℤ) (report : Report) (new : State) → Collects state at no_objects report new → new ≡ collected_state state at
same_state state at report new c = one_state state at no_objects report _ new _ c (these_collect state at)

-- the computed step of an event is one that the definitions allow, if no removal fails
pub each_event_has_this_step : EachEventHasThisStep
each_event_has_this_step state (requested request) = (refl, refl, refl)
each_event_has_this_step state (collect at dry workers) = go dry (collect_fault state.records workers) refl
  where
    go : (dry : Bool) (least : Option Fault) → collect_fault state.records workers ≡ least
        → let step : Answer × State = option_map_or (λ fault. (refused fault, state)) least (if dry then plans state at else collects state at) in Step state (collect at dry workers) no_objects step.0 step.1
    go true None free = (free, refl, this_plans state at, refl)
    go false None free = (free, these_collect state at)
    go true (Some fault) least = (least, refl, refl)
    go false (Some fault) least = (least, refl, refl)
each_event_has_this_step state (remove_collect removal at workers) = go (remove_collect_fault state removal workers) refl
  where
    go : (least : Option Fault) → remove_collect_fault state removal workers ≡ least
        → let step : Answer × State = option_map_or (λ fault. (refused fault, state)) least (collects (removal_outcome state removal).after at) in Step state (remove_collect removal at workers) no_objects step.0 step.1
    go None free = (free, these_collect (removal_outcome state removal).after at)
    go (Some fault) least = (least, refl, refl)

-- the definitions allow no other step of an event, if no removal fails
pub no_event_has_another_step : NoEventHasAnotherStep
no_event_has_another_step state (requested request) answer new step = (step.1, step.2)
no_event_has_another_step state (collect at true workers) (reported report) new step = (rw step.0 (ap reported (one_plan state at report _ step.2 (this_plans state at))), rw step.0 step.3)
no_event_has_another_step state (collect at false workers) (reported report) new step = (rw step.0 (ap reported (same_report state at report new step.1)), rw step.0 (same_state state at report new step.1))
no_event_has_another_step state (collect at true workers) (refused fault) new step = (rw step.0 refl, rw step.0 step.2)
no_event_has_another_step state (collect at false workers) (refused fault) new step = (rw step.0 refl, rw step.0 step.2)
no_event_has_another_step state (collect at true workers) (answered reply) new step = absurd step
no_event_has_another_step state (collect at false workers) (answered reply) new step = absurd step
no_event_has_another_step state (remove_collect removal at workers) (reported report) new step =
    let left = (removal_outcome state removal).after in
    (rw step.0 (ap reported (same_report left at report new step.1)), rw step.0 (same_state left at report new step.1))
no_event_has_another_step state (remove_collect removal at workers) (refused fault) new step = (rw step.0 refl, rw step.0 step.2)
no_event_has_another_step state (remove_collect removal at workers) (answered reply) new step = absurd step
