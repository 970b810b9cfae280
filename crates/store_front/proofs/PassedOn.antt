-- What `?` passes on: a refusal, and nothing that was promised of a result. Ours.
use Rattle.std.proofs.Common.{◌≡◌, ◌∙◌}
use Rattle.std.specs.Prelude.{Result, Ok, Err, None, IfOk, OnOk}
use Rattle.std.specs.Result.{IsErrAnd}
use Rattle.meta_types.specs.Faults.{Refuses}
use Rattle.meta_types.specs.declared.fault.Fault.{Fault}
use Rattle.meta_types.specs.declared.fault.Fault.TheVariants.{OutOfMemory}

module _ {T : Type 0} where
  pub memory_fails : (result : Result T Fault) (fault : Fault)
      → IsErrAnd result (λ other. other ≡ fault) → fault ≡ OutOfMemory → Refuses result None
  memory_fails (Ok x) fault same h = absurd same
  memory_fails (Err other) fault same h = same ∙ h

  pub nothing_given : (result : Result T Fault) (fault : Fault) (P : T → Type 0)
      → IsErrAnd result (λ other. other ≡ fault) → IfOk result P
  nothing_given (Ok x) fault P same = absurd same
  nothing_given (Err other) fault P same = tt

  pub nothing_checked : (result : Result T Fault) (fault : Fault) (P : Type 0)
      → IsErrAnd result (λ other. other ≡ fault) → OnOk result P
  nothing_checked (Ok x) fault P same = absurd same
  nothing_checked (Err other) fault P same = tt
