use Rattle.std.proofs.Common.{◌≡◌, ◌∙◌}
use Rattle.std.specs.Prelude.{Result, Ok, Err, None}
use Rattle.std.specs.Result.{IsErrAnd}
use Rattle.meta_types.specs.Faults.{Refuses}
use Rattle.meta_types.specs.declared.fault.Fault.{Fault}
use Rattle.meta_types.specs.declared.fault.Fault.TheVariants.{OutOfMemory}
use Rattle.object_tables.proofs.tables.Tables.copy.Goals as goal

-- the same rows
pub invariant_of-result : goal.invariant_of-result
invariant_of-result c =
    rw (
      c.in_ok-namespaces.ensures.ok,
      c.in_ok-images.ensures.ok,
      c.in_ok-containers.ensures.ok,
      c.in_ok-content.ensures.ok,
      c.in_ok-ingests.ensures.ok,
      c.in_ok-snapshots.ensures.ok,
    )
    c.self.invariant

-- a part that is refused is refused for memory, and `?` passes that on
memory_fails : {T : Type 0} (result : Result T Fault) (fault : Fault)
    → IsErrAnd result (λ other. other ≡ fault) → fault ≡ OutOfMemory → Refuses result None
memory_fails (Ok tables) fault same h = absurd same
memory_fails (Err other) fault same h = same ∙ h

pub returns-in_err-images-clause-fault : goal.returns-in_err-images-clause-fault
returns-in_err-images-clause-fault c =
    let passed = c.from_residual-in_err-images in
    memory_fails passed.result _ passed.ensures.1 c.in_err-images.ensures.fault

pub returns-in_err-containers-clause-fault : goal.returns-in_err-containers-clause-fault
returns-in_err-containers-clause-fault c =
    let passed = c.from_residual-in_err-containers in
    memory_fails passed.result _ passed.ensures.1 c.in_err-containers.ensures.fault

pub returns-in_err-content-clause-fault : goal.returns-in_err-content-clause-fault
returns-in_err-content-clause-fault c =
    let passed = c.from_residual-in_err-content in
    memory_fails passed.result _ passed.ensures.1 c.in_err-content.ensures.fault

pub returns-in_err-ingests-clause-fault : goal.returns-in_err-ingests-clause-fault
returns-in_err-ingests-clause-fault c =
    let passed = c.from_residual-in_err-ingests in
    memory_fails passed.result _ passed.ensures.1 c.in_err-ingests.ensures.fault

pub returns-in_err-snapshots-clause-fault : goal.returns-in_err-snapshots-clause-fault
returns-in_err-snapshots-clause-fault c =
    let passed = c.from_residual-in_err-snapshots in
    memory_fails passed.result _ passed.ensures.1 c.in_err-snapshots.ensures.fault
