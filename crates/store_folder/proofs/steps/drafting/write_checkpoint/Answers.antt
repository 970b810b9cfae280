use Rattle.std.proofs.Common.{◌∙◌}
use Rattle.store_folder.proofs.steps.drafting.write_checkpoint.Goals as goal

-- there is none
pub returns-in-Err-take-clause-failed : goal.returns-in-Err-take-clause-failed
returns-in-Err-take-clause-failed g c clean kept holds =
    let now = rw c.close_spare-closed.ensures.disk at clean in
    c.close_spare-closed.ensures.holds kept
    (c.in-Err-take.ensures.failed now kept
    (c.in-Ok.ensures.opened (c.in-Err-take.ensures.still now) kept holds))

pub returns-in-Err-take-clause-still : goal.returns-in-Err-take-clause-still
returns-in-Err-take-clause-still g c clean =
    c.in-Ok.ensures.clean
    (c.in-Err-take.ensures.still (rw c.close_spare-closed.ensures.disk at clean))

pub returns-in-Err-take-clause-same : goal.returns-in-Err-take-clause-same
returns-in-Err-take-clause-same g c =
    c.close_spare-closed.ensures.file ∙ c.in-Err-take.ensures.same ∙ c.in-Ok.ensures.file

-- there is one
pub returns-clause-ok : goal.returns-clause-ok
returns-clause-ok g c clean kept holds =
    c.in-Ok-take.ensures.ok clean kept
    (c.in-Ok.ensures.opened (c.in-Ok-take.ensures.clean clean) kept holds)

pub returns-clause-taken : goal.returns-clause-taken
returns-clause-taken g c clean kept holds =
    c.in-Ok-take.ensures.taken clean kept
    (c.in-Ok.ensures.opened (c.in-Ok-take.ensures.clean clean) kept holds)

pub returns-clause-clean : goal.returns-clause-clean
returns-clause-clean g c clean = c.in-Ok.ensures.clean (c.in-Ok-take.ensures.clean clean)

pub returns-clause-file : goal.returns-clause-file
returns-clause-file g c = c.in-Ok-take.ensures.file ∙ c.in-Ok.ensures.file
