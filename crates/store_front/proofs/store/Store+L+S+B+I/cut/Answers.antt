use Rattle.store_front.proofs.store.Store+L+S+B+I.cut.Goals as goal

pub returns-clause-fault : goal.returns-clause-fault
returns-clause-fault g c = (c.deref.result.now.log, c.cut.ensures.err)
