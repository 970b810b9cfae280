use Rattle.std.proofs.Common.{subst}
use Rattle.std.specs.Prelude.{IfOk}
use Rattle.request_core.specs.Foreseen.{TellsDone}
use Rattle.store_front.specs.Front.{Front}
use Rattle.store_front.proofs.locked.Locked.show_or_there.Goals as goal

-- the store is the one behind the lock
pub returns-clause-ok : goal.returns-clause-ok
returns-clause-ok g c =
    subst (λ (f : Front). IfOk c.show_or_there.result (λ shown.
    TellsDone f.store.state c.args.request.now c.args.there.now shown))
    c.self.view_is c.show_or_there.ensures.ok
