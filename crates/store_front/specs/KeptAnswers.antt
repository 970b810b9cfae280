-- Which answers an entry keeps, what an event did, and what refuses it. Ours,
-- unless a source stands beside.
use Rattle.std.specs.Prelude.{◌≡◌, Bool, true, false, ℕ, List, [], ◌∷◌, ◌++◌, Option, Some, None, Result, Ok, Err}
use Rattle.meta_types.specs.Rows.{State}
use Rattle.meta_types.specs.Reports.{Report}
use Rattle.meta_types.specs.Steps.{Answer, answered, reported, refused, Event}
use Rattle.meta_types.specs.Histories.{Step, Entry, failed_in}
use Rattle.meta_types.specs.declared.reply.Reply.{Reply}
use Rattle.meta_types.specs.declared.fault.Fault.{Fault}
use Rattle.meta_types.specs.declared.fault.Fault.TheVariants.{InvalidArgument, NotFound, AlreadyExists, FailedPrecondition, BadLine, TooLong, OutOfMemory, NoWorker, BackendFailed, ReadFailed, WriteFailed, Mismatch}
use Rattle.backend_sweep.specs.Swept.{count_names}
use Rattle.store_front.specs.SessionEntries.{SessionEntry}

-- events that are refused with a fault of the model are entries, others aren't
abbrev pub kept_fault : Fault → Option Answer
kept_fault InvalidArgument = Some (refused InvalidArgument)
kept_fault NotFound = Some (refused NotFound)
kept_fault AlreadyExists = Some (refused AlreadyExists)
kept_fault FailedPrecondition = Some (refused FailedPrecondition)
kept_fault BadLine = None
kept_fault TooLong = None
kept_fault OutOfMemory = None
kept_fault NoWorker = None
kept_fault BackendFailed = None
kept_fault ReadFailed = None
kept_fault WriteFailed = None
kept_fault (Mismatch place) = None

-- the answer that an entry of a request keeps, if there is one
abbrev pub kept_reply : Result Reply Fault → Option Answer
kept_reply (Ok reply) = Some (answered reply)
kept_reply (Err fault) = kept_fault fault

-- the answer that an entry of a collection keeps, if there is one
abbrev pub kept_report : Result Report Fault → Option Answer
kept_report (Ok report) = Some (reported report)
kept_report (Err fault) = kept_fault fault

-- the answer that a store keeps: none, where it keeps no history
abbrev pub kept_if : Bool → Option Answer → Option Answer
kept_if true kept = kept
kept_if false kept = None

-- an event did its step with the failures that its answer names, or nothing
abbrev pub Takes : State → Event → Option Answer → State → Type 0
Takes old event None new = new ≡ old
Takes old event (Some answer) new = Step old event (failed_in answer) answer new

-- one entry more, or none
abbrev pub log_after : List Entry → ℕ → Event → Option Answer → List Entry
log_after log number event None = log
log_after log number event (Some answer) = log ++ (record { session = number; event = event; answer = answer }) ∷ []

-- the same in the session's list
abbrev pub list_after : List SessionEntry → Event → Option Answer → List SessionEntry
list_after list event None = list
list_after list event (Some answer) = list ++ (record { event = event; answer = answer }) ∷ []

-- ---- devices

-- how often devices failed in a request
abbrev pub reply_failures : Result Reply Fault → ℕ
reply_failures (Ok reply) = 0
reply_failures (Err BackendFailed) = 1
reply_failures (Err InvalidArgument) = 0
reply_failures (Err NotFound) = 0
reply_failures (Err AlreadyExists) = 0
reply_failures (Err FailedPrecondition) = 0
reply_failures (Err BadLine) = 0
reply_failures (Err TooLong) = 0
reply_failures (Err OutOfMemory) = 0
reply_failures (Err NoWorker) = 0
reply_failures (Err ReadFailed) = 0
reply_failures (Err WriteFailed) = 0
reply_failures (Err (Mismatch place)) = 0

-- how often devices failed in a collection: once for each object that its report names as failed
abbrev pub report_failures : Result Report Fault → ℕ
report_failures (Ok report) = count_names report.failed
report_failures (Err fault) = 0
