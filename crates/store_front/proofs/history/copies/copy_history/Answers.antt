use Rattle.store_front.proofs.PassedOn.{memory_fails}
use Rattle.store_front.proofs.history.copies.copy_history.Goals as goal

-- memory alone refuses the log
pub returns-in_err-log-clause-fault : goal.returns-in_err-log-clause-fault
returns-in_err-log-clause-fault c =
    let passed = c.from_residual-in_err-log in
    memory_fails passed.result _ passed.ensures.1 c.in_err-log.ensures.fault
