use Rattle.std.specs.Prelude.{IsTrue}
use Rattle.kept_store.proofs.Drafting.{grown, settled}
use Rattle.kept_store.proofs.grouping.settle.Goals as goal

pub returns-clause-ok : goal.returns-clause-ok
returns-clause-ok g c begun clean drafts =
    let calm : IsTrue (g.E.Log.is_clean c.make_room.new.journal.log) =
    rw c.make_room.ensures.calm clean in
    settled begun _ _ _ _ _ _ _ _ _ _ c.in-Ok.ensures.empty
    (λ first groups lines has each is. c.in-Ok.ensures.ok first groups lines calm has each is)
    (grown begun _ _ _ _ _ _ _ _ _ _ c.make_room.ensures.waits
    (λ first groups has. c.in_ok-make_room.ensures.ok first groups clean has) drafts)
