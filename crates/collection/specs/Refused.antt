-- What refuses a collection, and a removal with one. Ours, unless a source stands beside.
use Rattle.std.specs.Prelude.{◌≡◌, false, Option, Some, None, Result, Ok, Err, ⊤}
use Rattle.meta_types.specs.Faults.{least_of}
use Rattle.meta_types.specs.Limits.{is_too_large}
use Rattle.meta_types.specs.Rows.{Records}
use Rattle.meta_types.specs.declared.fault.Fault.{Fault}
use Rattle.meta_types.specs.declared.fault.Fault.TheVariants.{InvalidArgument, NotFound, AlreadyExists, FailedPrecondition, BadLine, TooLong, OutOfMemory, NoWorker, BackendFailed, ReadFailed, WriteFailed, Mismatch}

-- what refuses a collection by workers that are allowed: too many rows
abbrev pub large_fault : Records → Option Fault
large_fault records = least_of false false false (is_too_large records)

-- a collection is refused with the least fault that applies; memory may run out at any time, and a
-- thread fail to start only where no fault applies
abbrev pub CollectFails : Fault → Option Fault → Type 0
CollectFails InvalidArgument least = least ≡ Some InvalidArgument
CollectFails NotFound least = least ≡ Some NotFound
CollectFails AlreadyExists least = least ≡ Some AlreadyExists
CollectFails FailedPrecondition least = least ≡ Some FailedPrecondition
CollectFails OutOfMemory least = ⊤
CollectFails NoWorker least = least ≡ None
CollectFails BadLine least = ⊥
CollectFails TooLong least = ⊥
CollectFails BackendFailed least = ⊥
CollectFails ReadFailed least = ⊥
CollectFails WriteFailed least = ⊥
CollectFails (Mismatch place) least = ⊥

-- a call succeeds only where no fault applies, and is refused so
abbrev pub RefusesCollect : {X : Type 0} → Result X Fault → Option Fault → Type 0
RefusesCollect (Ok x) least = least ≡ None
RefusesCollect (Err fault) least = CollectFails fault least
