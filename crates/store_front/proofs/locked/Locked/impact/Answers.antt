use Rattle.std.proofs.Common.{subst}
use Rattle.std.specs.Prelude.{IfOk}
use Rattle.meta_types.specs.Faults.{Refuses}
use Rattle.meta_types.specs.Impacts.{impact_fault, IsImpact, removed}
use Rattle.store_front.specs.Front.{Front}
use Rattle.store_front.proofs.locked.Locked.impact.Goals as goal

-- the state that is lent is the store's
pub returns-clause-fault : goal.returns-clause-fault
returns-clause-fault g c =
    subst (λ (f : Front). Refuses c.impact.result
    (impact_fault f.store.state c.args.ns c.args.object))
    c.self.view_is c.impact.ensures.fault

pub returns-clause-ok : goal.returns-clause-ok
returns-clause-ok g c =
    subst (λ (f : Front). IfOk c.impact.result (λ impact. IsImpact f.store.state
    (removed f.store.state c.args.ns c.args.object).after c.args.at.0 impact))
    c.self.view_is c.impact.ensures.ok
