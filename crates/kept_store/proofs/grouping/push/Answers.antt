use Rattle.kept_store.proofs.Drafting.{pushed}
use Rattle.kept_store.proofs.grouping.push.Goals as goal

pub returns-clause-ok : goal.returns-clause-ok
returns-clause-ok g c first drafts =
    let same = c.push.ensures.same in
    pushed g.E.Log.text g.E.Log.may_leave first _ _ _ _ _ _ _ _ c.args.line.now same.0 same.1 same.2
    c.in-Ok.ensures.ok.0 c.in-Ok.ensures.ok.1 drafts
