use Rattle.std.proofs.Common.{◌∙◌, sym, subst}
use Rattle.journal.specs.Head.{believed}
use Rattle.journal.specs.Notes.{StandsAt}
use Rattle.journal.specs.declared.page.note.Note.{Note}
use Rattle.store_folder.proofs.steps.witnessing.witness_as.Goals as goal

-- the same lines
pub returns-clause-holds : goal.returns-clause-holds
returns-clause-holds g c clean kept holds =
    let before = sym c.leave_witness-witnessed.ensures.calm
    ∙ (rw c.close_spare-closed.ensures.disk at clean) in
    c.close_spare-closed.ensures.holds kept
    (c.leave_witness-witnessed.ensures.holds before kept
    (c.in-Ok.ensures.opened before kept holds))

pub returns-clause-clean : goal.returns-clause-clean
returns-clause-clean g c clean =
    c.in-Ok.ensures.clean (sym c.leave_witness-witnessed.ensures.calm
    ∙ (rw c.close_spare-closed.ensures.disk at clean))

-- the witness stands there
pub returns-clause-left : goal.returns-clause-left
returns-clause-left g c is clean out left =
    let before = sym c.leave_witness-witnessed.ensures.calm
    ∙ (rw c.close_spare-closed.ensures.disk at clean) in
    subst (λ (put : Note). StandsAt 512 (believed out) put) c.in-Ok.ensures.note
    (c.leave_witness-witnessed.ensures.left is before out
    (rw c.close_spare-closed.ensures.disk at left))

pub returns-clause-file : goal.returns-clause-file
returns-clause-file g c =
    c.close_spare-closed.ensures.file ∙ c.leave_witness-witnessed.ensures.file
    ∙ c.in-Ok.ensures.file
