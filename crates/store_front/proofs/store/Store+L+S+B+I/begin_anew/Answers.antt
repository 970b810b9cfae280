use Rattle.store_front.proofs.Finishing.{outside}
use Rattle.store_front.proofs.store.Store+L+S+B+I.begin_anew.Goals as goal

pub returns-clause-ok : goal.returns-clause-ok
returns-clause-ok g c =
    outside c.deref_mut.result.now c.args.sessions.now c.begin_anew.result c.begin_anew.ensures.whole c.begin_anew.ensures.legal c.begin_anew.ensures.own c.begin_anew.ensures.all

pub returns-clause-fault : goal.returns-clause-fault
returns-clause-fault g c = (c.deref_mut.result.now.opened, c.deref_mut.result.now.log, c.begin_anew.ensures.err)
