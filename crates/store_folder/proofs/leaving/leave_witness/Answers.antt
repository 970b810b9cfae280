use Rattle.std.proofs.Common.{subst, []}
use Rattle.journal.specs.Head.{believed}
use Rattle.journal.specs.Notes.{StandsAt}
use Rattle.journal.specs.declared.page.note.Note.{Note}
use Rattle.store_folder.proofs.Standing.{holds_witnessed}
use Rattle.store_folder.proofs.leaving.leave_witness.Goals as goal

pub returns-in-Err-clause-holds : goal.returns-in-Err-clause-holds
returns-in-Err-clause-holds g c clean kept holds =
    holds_witnessed _ _ _ _ _ _ _ _ _ _ _ kept [] (g.met.E.Counting.believes c.args.folder.file)
    (g.met.E.Counting.selects c.args.folder.file) holds c.witness_of-note.result
    c.witness_of-note.ensures.is c.witness_of-note.ensures.fits (c.witness.ensures.crash clean)

pub returns-clause-holds : goal.returns-clause-holds
returns-clause-holds g c clean kept holds =
    holds_witnessed _ _ _ _ _ _ _ _ _ _ _ kept [] (g.met.E.Counting.believes c.args.folder.file)
    (g.met.E.Counting.selects c.args.folder.file) holds c.witness_of-note.result
    c.witness_of-note.ensures.is c.witness_of-note.ensures.fits (c.witness.ensures.crash clean)

pub returns-clause-left : goal.returns-clause-left
returns-clause-left g c is clean out left =
    subst (λ (put : Note). StandsAt 512 (believed out) put) c.witness_of-note.ensures.is
    (c.in-Ok.ensures.ok clean out left)
