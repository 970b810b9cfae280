-- On what the store's calls did.
use Rattle.std.proofs.Common.{◌≡◌, ◌∙◌, sym, subst, refl, ℕ, ◌+◌, List, [], ◌∷◌, length, Bool, true, Option, Some, None, Result, Ok, Err, inl, inr, arith, ℤ}
use Rattle.std.specs.Result.{IfErr}
use Rattle.std.specs.Prelude.{IfOk}
use Rattle.meta_types.specs.Time.{instant_of}
use Rattle.meta_types.specs.Limits.{is_worker_count}
use Rattle.meta_types.specs.Rows.{State}
use Rattle.meta_types.specs.Backends.{BackNames, no_objects}
use Rattle.meta_types.specs.Reports.{Report}
use Rattle.meta_types.specs.Steps.{Answer, answered, reported, Event, collect, remove_collect}
use Rattle.meta_types.specs.Questions.{of_event}
use Rattle.meta_types.specs.Histories.{Step}
use Rattle.meta_types.specs.declared.fault.Fault.{Fault}
use Rattle.meta_types.specs.declared.fault.Fault.TheVariants.{InvalidArgument, NotFound, AlreadyExists, FailedPrecondition, BadLine, TooLong, OutOfMemory, NoWorker, BackendFailed, ReadFailed, WriteFailed, Mismatch}
use Rattle.meta_types.specs.declared.reply.Reply.{Reply}
use Rattle.meta_types.specs.declared.request.Removal.{Removal}
use Rattle.request_line.specs.declared.command.Command.{Command}
use Rattle.request_line.specs.declared.command.Command.TheVariants as A
use Rattle.request_core.specs.Follows.{Fails}
use Rattle.backend_sweep.specs.Swept.{count_names}
use Rattle.collection.specs.Refused.{CollectFails}
use Rattle.store_front.specs.KeptAnswers.{kept_reply, kept_report, kept_fault, Takes, reply_failures, report_failures}
use Rattle.scripts.specs.EventSteps.{event_step}
use Rattle.scripts.specs.LineSteps.{supplied_answer, line_step_of, command_step}
use Rattle.scripts.specs.Lines.{asks_collection}
use Rattle.scripts.specs.Served.{IsServed, IsRefused}
use Rattle.scripts.proofs.Outcomes.{no_event_has_another_step}

-- ---- nothing was done

-- memory ran out before the store's call
pub no_memory : (old : State) (command : Command) (fault : Fault) → fault ≡ OutOfMemory
    → IsRefused old command fault old
no_memory old command fault is = inl (is, refl)

-- ---- a report in room of its own

module _ {B : Type 0} (value : B → Report) where
  pub boxed_ok : (result : Result B Fault) (call : Result Report Fault) (P : Report → Type 0)
      → IfOk result (λ report. call ≡ Ok (value report)) → IfOk call P
      → IfOk result (λ report. P (value report))
  boxed_ok (Ok report) call P is p = subst (λ (r : Result Report Fault). IfOk r P) is p
  boxed_ok (Err fault) call P is p = tt

  pub boxed_err : (result : Result B Fault) (call : Result Report Fault) (P : Fault → Type 0)
      → IfErr result (λ fault. call ≡ Err fault) → IfErr call P → IfErr result P
  boxed_err (Ok report) call P is p = tt
  boxed_err (Err fault) call P is p = subst (λ (r : Result Report Fault). IfErr r P) is p

-- ---- nothing failed

no_items : {X : Type 0} (xs : List X) → length xs ≡ 0 → xs ≡ []
no_items [] e = refl
no_items (x ∷ xs) e = absurd (omega arith)

no_names : (names : BackNames) → count_names names ≡ 0 → names ≡ no_objects
no_names names e =
    let blobs = no_items names.blobs (omega arith) in
    let ingests = no_items names.ingests (omega arith) in
    let snapshots = no_items names.snapshots (omega arith) in
    λ i. record { blobs = blobs i; ingests = ingests i; snapshots = snapshots i }

-- ---- the request is an event

module _ (old new : State) (command : Command) (event : Event)
    (is : command_step old (supplied_answer None) command
    ≡ line_step_of (event_step old event)) where
  -- a step is the answer
  step_served : (answer : Answer) → Step old event no_objects answer new
      → IsServed old command (of_event answer) new
  step_served answer step =
      let s = no_event_has_another_step old event answer new step in
      (tt, supplied_answer None, is ∙ (λ i. (of_event (sym s.0 i), sym s.1 i)))

  reply_refused : (fault : Fault) (least : Option Fault) → Takes old event (kept_fault fault) new
      → Fails fault least → 0 ≡ 0 + reply_failures (Err fault) → IsRefused old command fault new
  reply_refused InvalidArgument least step fails none = inr (inr (step_served _ step))
  reply_refused NotFound least step fails none = inr (inr (step_served _ step))
  reply_refused AlreadyExists least step fails none = inr (inr (step_served _ step))
  reply_refused FailedPrecondition least step fails none = inr (inr (step_served _ step))
  reply_refused OutOfMemory least step fails none = inl (refl, step)
  reply_refused BackendFailed least step fails none = absurd (omega arith)
  reply_refused BadLine least step fails none = absurd fails
  reply_refused TooLong least step fails none = absurd fails
  reply_refused NoWorker least step fails none = absurd fails
  reply_refused ReadFailed least step fails none = absurd fails
  reply_refused WriteFailed least step fails none = absurd fails
  reply_refused (Mismatch place) least step fails none = absurd fails

  report_refused : asks_collection (Some command) ≡ true → (fault : Fault) (least : Option Fault)
      → Takes old event (kept_fault fault) new → CollectFails fault least
      → IsRefused old command fault new
  report_refused collects InvalidArgument least step fails = inr (inr (step_served _ step))
  report_refused collects NotFound least step fails = inr (inr (step_served _ step))
  report_refused collects AlreadyExists least step fails = inr (inr (step_served _ step))
  report_refused collects FailedPrecondition least step fails = inr (inr (step_served _ step))
  report_refused collects OutOfMemory least step fails = inl (refl, step)
  report_refused collects NoWorker least step fails = inr (inl (refl, collects, step))
  report_refused collects BackendFailed least step fails = absurd fails
  report_refused collects BadLine least step fails = absurd fails
  report_refused collects TooLong least step fails = absurd fails
  report_refused collects ReadFailed least step fails = absurd fails
  report_refused collects WriteFailed least step fails = absurd fails
  report_refused collects (Mismatch place) least step fails = absurd fails

  -- a report without a failure is the answer
  report_served : (report : Report) → Step old event report.failed (reported report) new
      → count_names report.failed ≡ 0 → IsServed old command (of_event (reported report)) new
  report_served report step none = step_served (reported report) (subst (λ (failed : BackNames). Step old event failed (reported report) new) (no_names report.failed none) step)

  pub report_err : asks_collection (Some command) ≡ true
      → (result : Result Report Fault) (least : Option Fault)
      → Takes old event (kept_report result) new → IfErr result (λ fault. CollectFails fault least)
      → IfErr result (λ fault. IsRefused old command fault new)
  report_err collects (Ok report) least step fails = tt
  report_err collects (Err fault) least step fails = report_refused collects fault least step fails

  module _ (before after : ℕ) (was : before ≡ 0) (stays : after ≡ 0) where
    pub reply_ok : (result : Result Reply Fault) → Takes old event (kept_reply result) new
        → IfOk result (λ reply. IsServed old command (of_event (answered reply)) new)
    reply_ok (Ok reply) step = step_served (answered reply) step
    reply_ok (Err fault) step = tt

    pub reply_err : (result : Result Reply Fault) (least : Option Fault)
        → Takes old event (kept_reply result) new → IfErr result (λ fault. Fails fault least)
        → after ≡ before + reply_failures result
        → IfErr result (λ fault. IsRefused old command fault new)
    reply_err (Ok reply) least step fails count = tt
    reply_err (Err fault) least step fails count = reply_refused fault least step fails (omega arith)

    pub report_ok : (result : Result Report Fault) → Takes old event (kept_report result) new
        → after ≡ before + report_failures result
        → IfOk result (λ report. IsServed old command (of_event (reported report)) new)
    report_ok (Ok report) step count = report_served report step (omega arith)
    report_ok (Err fault) step count = tt

-- ---- which event

-- a collection at a moment, whatever the number of workers
pub is_collection : (old : State) (text : List ℕ) (at : ℤ) (dry : Bool) (workers : ℕ)
    → instant_of text ≡ Some at → is_worker_count workers ≡ true
    → command_step old (supplied_answer None) (A.Collect text dry) ≡ line_step_of
    (event_step old (collect at dry workers))
is_collection old text at dry workers read allowed = rw (read, allowed) refl

-- a removal with a collection at a moment
pub is_removal : (old : State) (removal : Removal) (text : List ℕ) (at : ℤ) (workers : ℕ)
    → instant_of text ≡ Some at → is_worker_count workers ≡ true
    → command_step old (supplied_answer None) (A.Remove removal text) ≡ line_step_of
    (event_step old (remove_collect removal at workers))
is_removal old removal text at workers read allowed = rw (read, allowed) refl

-- a moment that can't be read is no event
pub no_collection : (old : State) (text : List ℕ) (dry : Bool) → instant_of text ≡ None
    → IsRefused old (A.Collect text dry) InvalidArgument old
no_collection old text dry e = inr (inr (tt, supplied_answer None, rw e refl))

pub no_removal : (old : State) (removal : Removal) (text : List ℕ) → instant_of text ≡ None
    → IsRefused old (A.Remove removal text) InvalidArgument old
no_removal old removal text e = inr (inr (tt, supplied_answer None, rw e refl))
