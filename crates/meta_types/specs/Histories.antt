-- Which steps an event may take, and which histories are legal. Ours,
-- unless a source stands beside.
use Rattle.std.specs.Prelude.{◌≡◌, ℕ, true, false, List, [], ◌∷◌, Some, None}
use Rattle.meta_types.specs.Rows.{State}
use Rattle.meta_types.specs.Backends.{BackNames, no_objects}
use Rattle.meta_types.specs.Reports.{Collects, Plans}
use Rattle.meta_types.specs.Requests.{removal_outcome}
use Rattle.meta_types.specs.Steps.{Answer, answered, reported, refused, answer_to, after, Event, requested, collect, remove_collect, collect_fault, remove_collect_fault}

-- from the store, the event may give this answer and leave this store, where these removals failed
abbrev pub Step : State → Event → BackNames → Answer → State → Type 0
Step state (requested request) failed answer new = (failed ≡ no_objects) × (answer ≡ answer_to state request) × (new ≡ after state request)
Step state (collect at true workers) failed (reported report) new = (collect_fault state.records workers ≡ None) × (failed ≡ no_objects) × Plans state at report × (new ≡ state)
Step state (collect at false workers) failed (reported report) new = (collect_fault state.records workers ≡ None) × Collects state at failed report new
Step state (collect at dry workers) failed (refused fault) new = (collect_fault state.records workers ≡ Some fault) × (failed ≡ no_objects) × (new ≡ state)
Step state (collect at dry workers) failed (answered reply) new = ⊥
Step state (remove_collect removal at workers) failed (reported report) new =
    (remove_collect_fault state removal workers ≡ None) × Collects (removal_outcome state removal).after at failed report new
Step state (remove_collect removal at workers) failed (refused fault) new = (remove_collect_fault state removal workers ≡ Some fault) × (failed ≡ no_objects) × (new ≡ state)
Step state (remove_collect removal at workers) failed (answered reply) new = ⊥

-- ---- histories

-- one event of a history, of which session, and what it was answered
pub record Entry : Type 0 where
  pub session : ℕ
  pub event : Event
  pub answer : Answer

-- the failures that an answer names
abbrev pub failed_in : Answer → BackNames
failed_in (reported report) = report.failed
failed_in (answered reply) = no_objects
failed_in (refused fault) = no_objects

-- the events lead from the base to the store, each with its answer
abbrev pub IsLegal : State → List Entry → State → Type 0
IsLegal base [] new = new ≡ base
IsLegal base (entry ∷ log) new = (mid : State) × Step base entry.event (failed_in entry.answer) entry.answer mid × IsLegal mid log new
