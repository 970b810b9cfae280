-- What a call answers that also starts threads. Ours, unless a source stands beside.
use Rattle.std.specs.Prelude.{◌≡◌, ◌⊎◌, Option, Some, None, Result, Ok, Err}
use Rattle.meta_types.specs.declared.fault.Fault.{Fault}
use Rattle.meta_types.specs.declared.fault.Fault.TheVariants.{OutOfMemory, NoWorker}

-- a call is refused with the fault, where there is one; else it succeeds, or memory ran out, or a
-- thread couldn't be started
abbrev pub RefusesThreads : {X : Type 0} → Result X Fault → Option Fault → Type 0
RefusesThreads (Ok x) least = least ≡ None
RefusesThreads (Err answer) (Some fault) = answer ≡ fault
RefusesThreads (Err answer) None = (answer ≡ OutOfMemory) ⊎ (answer ≡ NoWorker)
