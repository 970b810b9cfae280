use Rattle.kept_store.proofs.grouping.put_line.Goals as goal

pub returns-clause-ok : goal.returns-clause-ok
returns-clause-ok g c first clean drafts =
    c.in_ok-push.ensures.ok first (c.in_ok-settle_full.ensures.ok first clean drafts)
