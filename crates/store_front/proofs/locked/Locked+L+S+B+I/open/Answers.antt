use Rattle.store_front.proofs.PassedOn.{memory_fails}
use Rattle.store_front.proofs.locked.Locked+L+S+B+I.open.Goals as goal

-- memory alone refuses the copy of the store
pub returns-in_err-base-clause-fault : goal.returns-in_err-base-clause-fault
returns-in_err-base-clause-fault g c =
    memory_fails c.from_residual.result _ c.from_residual.ensures.1 c.in_err-base.ensures.fault
