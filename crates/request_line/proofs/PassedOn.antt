-- A fault that is handed on.
use Rattle.std.proofs.Common.{◌≡◌, ◌∙◌, None, Result, Ok, Err}
use Rattle.std.specs.Result.{IsErrAnd}
use Rattle.meta_types.specs.Faults.{Refuses}
use Rattle.meta_types.specs.declared.fault.Fault.{Fault}
use Rattle.meta_types.specs.declared.fault.Fault.TheVariants.{OutOfMemory}

-- where memory ran out in a call, that is the fault
pub memory_fails : {T : Type 0} (result : Result T Fault) (fault : Fault)
    → IsErrAnd result (λ other. other ≡ fault) → fault ≡ OutOfMemory → Refuses result None
memory_fails (Ok x) fault same h = absurd same
memory_fails (Err other) fault same h = same ∙ h
