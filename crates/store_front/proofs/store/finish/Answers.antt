use Rattle.store_front.proofs.Finishing.{outside}
use Rattle.store_front.proofs.store.finish.Goals as goal

pub returns-clause-ok : goal.returns-clause-ok
returns-clause-ok g c = outside c.into_inner.result c.args.sessions.items c.finish.result c.finish.ensures.whole c.finish.ensures.legal c.finish.ensures.own c.finish.ensures.all

pub returns-clause-fault : goal.returns-clause-fault
returns-clause-fault g c = (c.into_inner.result.opened, c.into_inner.result.log, c.finish.ensures.err)
