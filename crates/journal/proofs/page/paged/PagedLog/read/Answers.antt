use Rattle.journal.proofs.Behind.{behind_rests}
use Rattle.journal.proofs.page.paged.PagedLog.read.Goals as goal

pub returns-in_err-read-clause-rests : goal.returns-in_err-read-clause-rests
returns-in_err-read-clause-rests g c only =
    behind_rests c.args.self.now.from _ _ _ _ c.read.ensures.same c.read.ensures.crash only

pub returns-clause-rests : goal.returns-clause-rests
returns-clause-rests g c only =
    behind_rests c.args.self.now.from _ _ _ _ c.read.ensures.same c.read.ensures.crash only
