use Rattle.kept_store.proofs.PassedOn.{nothing_given}
use Rattle.kept_store.proofs.keeping.keep.Goals as goal

pub returns-clause-ok : goal.returns-clause-ok
returns-clause-ok g c clean =
    let drafts = c.in_ok-journal.ensures.ok (c.compare.ensures.clean clean) in
    c.in-Ok.ensures.ok clean c.args.file.first drafts.groups drafts.has

-- where the lines can't be written, nothing is promised of a journal
pub returns-in_err-journal-clause-ok : goal.returns-in_err-journal-clause-ok
returns-in_err-journal-clause-ok g c =
    let passed = c.from_residual in
    nothing_given passed.result _ _ passed.ensures.1

pub returns-in_err-journal-clause-empty : goal.returns-in_err-journal-clause-empty
returns-in_err-journal-clause-empty g c =
    let passed = c.from_residual in
    nothing_given passed.result _ _ passed.ensures.1
