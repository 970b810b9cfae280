use Rattle.kept_store.proofs.Restarts.{keeps_store}
use Rattle.kept_store.proofs.Stopping.{where_well, where_unread}
use Rattle.kept_store.proofs.run.run_store.Goals as goal

pub returns-clause-kept : goal.returns-clause-kept
returns-clause-kept g c kept has =
    keeps_store _ _ g.met.S.StoreService.keeps _ _ _ _ (c.run_lines.ensures.kept kept has)

pub returns-clause-settled : goal.returns-clause-settled
returns-clause-settled g c = where_well c.run_lines.result _ c.run_lines.ensures.settled

pub returns-clause-unread : goal.returns-clause-unread
returns-clause-unread g c = where_unread c.run_lines.result _ c.run_lines.ensures.settled
