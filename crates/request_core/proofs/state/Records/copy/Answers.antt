use Rattle.std.proofs.Common.{◌≡◌, ◌∙◌}
use Rattle.std.specs.Prelude.{Result, Ok, Err, None}
use Rattle.std.specs.Result.{IsErrAnd}
use Rattle.meta_types.specs.Faults.{Refuses}
use Rattle.meta_types.specs.declared.fault.Fault.{Fault}
use Rattle.meta_types.specs.declared.fault.Fault.TheVariants.{OutOfMemory}
use Rattle.request_core.proofs.state.Records.copy.Goals as goal

memory_fails : {T : Type 0} (result : Result T Fault) (fault : Fault)
    → IsErrAnd result (λ other. other ≡ fault) → fault ≡ OutOfMemory → Refuses result None
memory_fails (Ok records) fault same h = absurd same
memory_fails (Err other) fault same h = same ∙ h

-- the leases are refused for memory, and `?` passes that on
pub returns-in_err-leases-clause-fault : goal.returns-in_err-leases-clause-fault
returns-in_err-leases-clause-fault c =
    let passed = c.from_residual-in_err-leases in
    memory_fails passed.result _ passed.ensures.1 c.in_err-leases.ensures.fault
