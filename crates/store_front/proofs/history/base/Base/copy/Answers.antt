use Rattle.store_front.proofs.PassedOn.{memory_fails}
use Rattle.store_front.proofs.history.base.Base.copy.Goals as goal

-- memory alone refuses each list
pub returns-in_err-blobs-clause-fault : goal.returns-in_err-blobs-clause-fault
returns-in_err-blobs-clause-fault c =
    let passed = c.from_residual-in_err-blobs in
    memory_fails passed.result _ passed.ensures.1 c.in_err-blobs.ensures.fault

pub returns-in_err-snapshots-clause-fault : goal.returns-in_err-snapshots-clause-fault
returns-in_err-snapshots-clause-fault c =
    let passed = c.from_residual-in_err-snapshots in
    memory_fails passed.result _ passed.ensures.1 c.in_err-snapshots.ensures.fault

pub returns-in_err-ingests-clause-fault : goal.returns-in_err-ingests-clause-fault
returns-in_err-ingests-clause-fault c =
    let passed = c.from_residual-in_err-ingests in
    memory_fails passed.result _ passed.ensures.1 c.in_err-ingests.ensures.fault
