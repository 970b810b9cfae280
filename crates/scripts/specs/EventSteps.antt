-- What each event answers, and the store after it, where no device fails. Ours,
-- unless a source stands beside.
use Rattle.std.specs.Prelude.{Bool, true, false, if◌then◌else◌, ℤ}
use Rattle.std.specs.Option.{option_map_or}
use Rattle.meta_types.specs.Rows.{State}
use Rattle.meta_types.specs.Finding.{reached_in}
use Rattle.meta_types.specs.Backends.{no_objects}
use Rattle.meta_types.specs.Collected.{collected}
use Rattle.meta_types.specs.Reports.{Report, report_of}
use Rattle.meta_types.specs.Requests.{removal_outcome}
use Rattle.meta_types.specs.Steps.{Answer, reported, refused, Event, requested, collect, remove_collect, answer_to, after, collect_fault, remove_collect_fault}

abbrev pub collection_report : State → ℤ → Bool → Report
collection_report state at dry = report_of state at (reached_in state.records at) no_objects dry

abbrev pub collected_state : State → ℤ → State
collected_state state at = collected state at (reached_in state.records at) no_objects

-- what a collection of this store answers, and the store after it
abbrev pub collects : State → ℤ → Answer × State
collects state at = (reported (collection_report state at false), collected_state state at)

-- what a dry run of this store answers, and the store after it: the same
abbrev pub plans : State → ℤ → Answer × State
plans state at = (reported (collection_report state at true), state)

-- what an event answers, and the store after it; a removal with a collection
-- collects the store without the row
abbrev pub event_step : State → Event → Answer × State
event_step state (requested request) = (answer_to state request, after state request)
event_step state (collect at dry workers) =
    option_map_or (λ fault. (refused fault, state)) (collect_fault state.records workers)
    (if dry then plans state at else collects state at)
event_step state (remove_collect removal at workers) =
    option_map_or (λ fault. (refused fault, state)) (remove_collect_fault state removal workers)
    (collects (removal_outcome state removal).after at)
