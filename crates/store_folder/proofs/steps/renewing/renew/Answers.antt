use Rattle.store_folder.proofs.steps.renewing.renew.Goals as goal

-- the other file counts
pub returns-then-is_second-clause-which : goal.returns-then-is_second-clause-which
returns-then-is_second-clause-which g c = rw c.if-is_second.true c.in-Ok.ensures.which

pub returns-clause-which : goal.returns-clause-which
returns-clause-which g c = rw c.if-is_second.false c.in-Ok-renew_second.ensures.which
