use Rattle.store_front.proofs.PassedOn.{memory_fails}
use Rattle.store_front.proofs.locked.base_of.Goals as goal

-- memory alone refuses the lists
pub returns-in_err-lists-clause-fault : goal.returns-in_err-lists-clause-fault
returns-in_err-lists-clause-fault g c =
    let passed = c.from_residual-in_err-lists in
    memory_fails passed.result _ passed.ensures.1 c.in_err-lists.ensures.fault
