-- What a request is to show, told before it is done. Ours, unless a source stands beside.
use Rattle.std.specs.Prelude.{◌≡◌, false, Option, None, Result, Ok, Err, option_and_then, ⊤}
use Rattle.meta_types.specs.Ops.{least_fault}
use Rattle.meta_types.specs.Requests.{outcome}
use Rattle.meta_types.specs.Shown.{ToHold, object_to_hold, request_done, row_shown, shown_row}
use Rattle.meta_types.specs.Text.{Text}
use Rattle.meta_types.specs.Rows.{State}
use Rattle.meta_types.specs.declared.fault.Fault.{Fault}
use Rattle.meta_types.specs.declared.fault.Fault.TheVariants.{InvalidArgument, NotFound, AlreadyExists, FailedPrecondition, BadLine, TooLong, OutOfMemory, NoWorker, BackendFailed, ReadFailed, WriteFailed, Mismatch}
use Rattle.meta_types.specs.declared.object.Object.TheVariants.{Held}
use Rattle.meta_types.specs.declared.reply.Reply.{Reply}
use Rattle.meta_types.specs.declared.shown_row.ShownRow.{ShownRow}
use Rattle.meta_types.specs.declared.request.Request.{Request}
use Rattle.request_core.specs.declared.there.Applied.{Applied}
use Rattle.request_core.specs.declared.refusal.Refusal.{Refusal}
use Rattle.request_core.specs.declared.refusal.Refusal.TheVariants.{Reading, By}

-- memory ran out
abbrev pub IsMemory : Refusal → Type 0
IsMemory Reading = ⊤
IsMemory (By fault) = fault ≡ OutOfMemory

-- this is shown, or memory ran out
abbrev pub Shows : Option ShownRow → Result (Option ShownRow) Refusal → Type 0
Shows expected (Ok shown) = expected ≡ shown
Shows expected (Err refusal) = IsMemory refusal

-- where no fault applies this is the row after the request, as it is shown, if it has one
unfoldable pub ShowsRow : State → Request → Result (Option ShownRow) Refusal → Type 0
ShowsRow state request result =
    least_fault (outcome state request) ≡ None → Shows
    (row_shown (outcome state request).after request) result

-- outside, memory alone refuses: the request itself answers its fault
abbrev pub told : Result (Option ShownRow) Refusal → Result (Option ShownRow) Fault
told (Ok shown) = Ok shown
told (Err Reading) = Err OutOfMemory
told (Err (By OutOfMemory)) = Err OutOfMemory
told (Err (By InvalidArgument)) = Ok None
told (Err (By NotFound)) = Ok None
told (Err (By AlreadyExists)) = Ok None
told (Err (By FailedPrecondition)) = Ok None
told (Err (By BackendFailed)) = Ok None
told (Err (By BadLine)) = Ok None
told (Err (By TooLong)) = Ok None
told (Err (By NoWorker)) = Ok None
told (Err (By ReadFailed)) = Ok None
told (Err (By WriteFailed)) = Ok None
told (Err (By (Mismatch place))) = Ok None

-- the same outside
abbrev pub TellsRow : State → Request → Option ShownRow → Type 0
TellsRow state request shown =
    least_fault (outcome state request) ≡ None → row_shown (outcome state request).after request ≡
    shown

-- the same of a line: where its lease is to hold an object that exists, that row is shown
abbrev pub TellsDone : State → Request → Option Text → Option ShownRow → Type 0
TellsDone state request there shown =
    least_fault (outcome state (request_done state request there)) ≡ None
    → row_shown (outcome state (request_done state request there)).after request ≡ shown

-- the row that is there, where one is to be held
abbrev pub there_of : State → Option ToHold → Option ShownRow
there_of state = option_and_then (λ (object : ToHold). shown_row state object.ns
    (Held object.resource))

-- the row that is there of what a request makes under a lease, where its texts are allowed
abbrev pub TellsThere : State → Request → Option ShownRow → Type 0
TellsThere state request shown =
    (outcome state request).invalid ≡ false → there_of state (object_to_hold request) ≡ shown

-- the same, or memory ran out
abbrev pub LooksThere : State → Request → Result (Option ShownRow) Refusal → Type 0
LooksThere state request result =
    (outcome state request).invalid ≡ false → Shows (there_of state (object_to_hold request)) result

-- the reply of a request that was done, or whose lease holds the object
abbrev pub reply_of : Result Applied Fault → Result Reply Fault
reply_of (Ok applied) = Ok applied.reply
reply_of (Err fault) = Err fault
