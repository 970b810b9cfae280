-- The faults: their numbers and names, and what a call that may be refused answers. Ours, unless a
-- source stands beside.
use Rattle.std.specs.Prelude.{◌≡◌, ℕ, List, codes, Bool, true, false, Option, Some, None, Result, Ok, Err, if◌then◌else◌}
use Rattle.meta_types.specs.declared.fault.Fault.{Fault}
use Rattle.meta_types.specs.declared.fault.Fault.TheVariants.{InvalidArgument, NotFound, AlreadyExists, FailedPrecondition, BadLine, TooLong, OutOfMemory, NoWorker, BackendFailed, ReadFailed, WriteFailed, Mismatch}

-- the number that a reply shows
abbrev pub number_of : Fault → ℕ
number_of InvalidArgument = 1
number_of NotFound = 2
number_of AlreadyExists = 3
number_of FailedPrecondition = 4
number_of BadLine = 5
number_of TooLong = 6
number_of OutOfMemory = 7
number_of NoWorker = 8
number_of BackendFailed = 9
number_of ReadFailed = 10
number_of WriteFailed = 11
number_of (Mismatch place) = 12

-- the name that a reply shows (the first four: containerd's error classes)
abbrev pub name_of : Fault → List ℕ
name_of InvalidArgument = codes "InvalidArgument"
name_of NotFound = codes "NotFound"
name_of AlreadyExists = codes "AlreadyExists"
name_of FailedPrecondition = codes "FailedPrecondition"
name_of BadLine = codes "BadLine"
name_of TooLong = codes "TooLong"
name_of OutOfMemory = codes "OutOfMemory"
name_of NoWorker = codes "NoWorker"
name_of BackendFailed = codes "BackendFailed"
name_of ReadFailed = codes "ReadFailed"
name_of WriteFailed = codes "WriteFailed"
name_of (Mismatch place) = codes "Mismatch"

-- of the faults that apply, the least is answered: not allowed, not there, there already, forbidden
abbrev pub least_of : Bool → Bool → Bool → Bool → Option Fault
least_of invalid missing there forbidden =
    if invalid then Some InvalidArgument
    else (if missing then Some NotFound else (if there then Some AlreadyExists else (if forbidden then Some FailedPrecondition else None)))

-- no fault where the test holds, else this one
abbrev pub unless : Bool → Fault → Option Fault
unless true fault = None
unless false fault = Some fault

-- a call is refused with the fault, where there is one; else it succeeds, or memory ran out
abbrev pub Refuses : {X : Type 0} → Result X Fault → Option Fault → Type 0
Refuses (Ok x) least = least ≡ None
Refuses (Err answer) (Some fault) = answer ≡ fault
Refuses (Err answer) None = answer ≡ OutOfMemory

-- the same for a call that takes no memory: it is never refused for memory
abbrev pub OnlyRefuses : {X : Type 0} → Result X Fault → Option Fault → Type 0
OnlyRefuses (Ok x) least = least ≡ None
OnlyRefuses (Err answer) least = least ≡ Some answer
