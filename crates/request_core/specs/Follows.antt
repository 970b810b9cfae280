-- What a call of `apply` answers and leaves. Ours, unless a source stands beside.
use Rattle.std.specs.Prelude.{◌≡◌, ℕ, Bool, true, false, ◌+◌, List, Option, Some, None, Result, Ok, Err, ⊤}
use Rattle.meta_types.specs.Text.{Text}
use Rattle.meta_types.specs.Rows.{Tables, LeaseRow, BackSnap, State}
use Rattle.meta_types.specs.Ops.{Outcome, least_fault}
use Rattle.meta_types.specs.Requests.{outcome}
use Rattle.meta_types.specs.declared.request.Request.{Request}
use Rattle.meta_types.specs.declared.reply.Reply.{Reply}
use Rattle.meta_types.specs.declared.fault.Fault.{Fault}
use Rattle.meta_types.specs.declared.fault.Fault.TheVariants.{InvalidArgument, NotFound, AlreadyExists, FailedPrecondition, BadLine, TooLong, OutOfMemory, NoWorker, BackendFailed, ReadFailed, WriteFailed, Mismatch}
use Rattle.request_core.specs.declared.refusal.Refusal.{Refusal}
use Rattle.request_core.specs.declared.refusal.Refusal.TheVariants.{Reading, By}

-- a store, and how often its devices have failed
pub record Store : Type 0 where
  pub state : State
  pub failures : ℕ

-- the store of these parts
abbrev pub store_of : Tables → List LeaseRow → ℕ → ℕ → List BackSnap → List Text → List ℕ → ℕ → Store
store_of tables leases next profile snapshots blobs ingests failures = record {
  state = record {
    records = record { tables = tables; leases = leases; next = next; profile = profile };
    backends = record { blobs = blobs; snapshots = snapshots; ingests = ingests };
  };
  failures = failures;
}

-- a fault is the least that applies; OutOfMemory may come at any time, a device's failure only
-- where no fault applies
abbrev pub Fails : Fault → Option Fault → Type 0
Fails InvalidArgument least = least ≡ Some InvalidArgument
Fails NotFound least = least ≡ Some NotFound
Fails AlreadyExists least = least ≡ Some AlreadyExists
Fails FailedPrecondition least = least ≡ Some FailedPrecondition
Fails OutOfMemory least = ⊤
Fails BackendFailed least = least ≡ None
Fails BadLine least = ⊥
Fails TooLong least = ⊥
Fails NoWorker least = ⊥
Fails ReadFailed least = ⊥
Fails WriteFailed least = ⊥
Fails (Mismatch place) least = ⊥

-- a refusal leaves all as it was, but that a device may have failed once more
abbrev pub left_by : Fault → Store → Store
left_by BackendFailed old = record old { failures = old.failures + 1 }
left_by InvalidArgument old = old
left_by NotFound old = old
left_by AlreadyExists old = old
left_by FailedPrecondition old = old
left_by OutOfMemory old = old
left_by BadLine old = old
left_by TooLong old = old
left_by NoWorker old = old
left_by ReadFailed old = old
left_by WriteFailed old = old
left_by (Mismatch place) old = old

-- the outcome with its effect, or a refusal
abbrev pub Follows : Store → Outcome → Result Reply Fault → Store → Type 0
Follows old o (Ok reply) new = (least_fault o ≡ None) × (reply ≡ o.reply) × (new ≡ record old { state = o.after })
Follows old o (Err fault) new = Fails fault (least_fault o) × (new ≡ left_by fault old)

-- the same with two cases of OutOfMemory: while the texts are read, or only where no fault applies
abbrev pub FailsExactly : Fault → Option Fault → Type 0
FailsExactly InvalidArgument least = least ≡ Some InvalidArgument
FailsExactly NotFound least = least ≡ Some NotFound
FailsExactly AlreadyExists least = least ≡ Some AlreadyExists
FailsExactly FailedPrecondition least = least ≡ Some FailedPrecondition
FailsExactly OutOfMemory least = least ≡ None
FailsExactly BackendFailed least = least ≡ None
FailsExactly BadLine least = ⊥
FailsExactly TooLong least = ⊥
FailsExactly NoWorker least = ⊥
FailsExactly ReadFailed least = ⊥
FailsExactly WriteFailed least = ⊥
FailsExactly (Mismatch place) least = ⊥

-- the outcome with its effect, or a refusal in reading, or another
abbrev pub FollowsExactly : Store → Outcome → Result Reply Refusal → Store → Type 0
FollowsExactly old o (Ok reply) new = (least_fault o ≡ None) × (reply ≡ o.reply) × (new ≡ record old { state = o.after })
FollowsExactly old o (Err Reading) new = new ≡ old
FollowsExactly old o (Err (By fault)) new = FailsExactly fault (least_fault o) × (new ≡ left_by fault old)

-- the outcome of the request
unfoldable pub Answers : Store → Request → Result Reply Fault → Store → Type 0
Answers old request result new = Follows old (outcome old.state request) result new

-- the outcome of the request, inside the crate
unfoldable pub AnswersExactly : Store → Request → Result Reply Refusal → Store → Type 0
AnswersExactly old request result new = FollowsExactly old (outcome old.state request) result new

-- texts are read where they are allowed
abbrev pub ReadsTexts : {X : Type 0} → Result X Refusal → Bool → X → Type 0
ReadsTexts (Ok x) allowed value = (allowed ≡ true) × (x ≡ value)
ReadsTexts (Err Reading) allowed value = ⊤
ReadsTexts (Err (By fault)) allowed value = (fault ≡ InvalidArgument) × (allowed ≡ false)

-- texts are put where they are allowed
abbrev pub PutsTexts : Result (Unit {0}) Refusal → Bool → Type 0 → Type 0
PutsTexts (Ok x) allowed Put = (allowed ≡ true) × Put
PutsTexts (Err Reading) allowed Put = ⊤
PutsTexts (Err (By fault)) allowed Put = (fault ≡ InvalidArgument) × (allowed ≡ false)

-- OutOfMemory, while texts are read
abbrev pub reading : Fault → Refusal
reading OutOfMemory = Reading
reading InvalidArgument = By InvalidArgument
reading NotFound = By NotFound
reading AlreadyExists = By AlreadyExists
reading FailedPrecondition = By FailedPrecondition
reading BackendFailed = By BackendFailed
reading BadLine = By BadLine
reading TooLong = By TooLong
reading NoWorker = By NoWorker
reading ReadFailed = By ReadFailed
reading WriteFailed = By WriteFailed
reading (Mismatch place) = By (Mismatch place)

-- the fault that a refusal is answered by
abbrev pub plain : Result Reply Refusal → Result Reply Fault
plain (Ok reply) = Ok reply
plain (Err Reading) = Err OutOfMemory
plain (Err (By fault)) = Err fault
