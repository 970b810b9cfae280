-- What each event answers, and the store after a request. Ours, unless a source stands beside.
use Rattle.std.specs.Prelude.{ℕ, Bool, false, not, ◌||◌, Option, if◌then◌else◌, is_some, ℤ}
use Rattle.std.specs.Option.{option_map_or}
use Rattle.meta_types.specs.Faults.{least_of}
use Rattle.meta_types.specs.Limits.{is_worker_count, is_too_large}
use Rattle.meta_types.specs.Rows.{Records, State}
use Rattle.meta_types.specs.Reports.{Report}
use Rattle.meta_types.specs.Ops.{least_fault}
use Rattle.meta_types.specs.Requests.{outcome, removal_outcome}
use Rattle.meta_types.specs.declared.fault.Fault.{Fault}
use Rattle.meta_types.specs.declared.request.Request.{Request}
use Rattle.meta_types.specs.declared.request.Removal.{Removal}
use Rattle.meta_types.specs.declared.reply.Reply.{Reply}

-- what the store answers: a reply, a report, or a fault
pub data Answer : Type 0 where
  answered : Reply → Answer
  reported : Report → Answer
  refused : Fault → Answer

-- what a request answers: the least fault that applies, else its reply
abbrev pub answer_to : State → Request → Answer
answer_to state request = let o = outcome state request in option_map_or refused (least_fault o) (answered o.reply)

-- the store after a request: as before where it is refused
abbrev pub after : State → Request → State
after state request = let o = outcome state request in if is_some (least_fault o) then state else o.after

-- What happens to a store: a request, a collection or dry run, a removal with a collection. With a
-- collection come its moment, whether it is dry, and its workers.
pub data Event : Type 0 where
  requested : Request → Event
  collect : ℤ → Bool → ℕ → Event
  remove_collect : Removal → ℤ → ℕ → Event

-- what refuses a collection: the number of workers, which is used for
-- nothing else, or too many rows
abbrev pub collect_fault : Records → ℕ → Option Fault
collect_fault records workers = least_of (not (is_worker_count workers)) false false (is_too_large records)

-- what refuses a removal with a collection: what refuses the one or the other
abbrev pub remove_collect_fault : State → Removal → ℕ → Option Fault
remove_collect_fault state removal workers =
    let o = removal_outcome state removal in
    least_of (o.invalid || not (is_worker_count workers)) o.missing o.there (o.forbidden || is_too_large state.records)
