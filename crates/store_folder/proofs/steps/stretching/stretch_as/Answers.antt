use Rattle.std.proofs.Common.{◌∙◌, sym}
use Rattle.store_folder.proofs.steps.stretching.stretch_as.Goals as goal

pub returns-clause-holds : goal.returns-clause-holds
returns-clause-holds g c clean kept holds =
    let before = sym c.stretch_spare-stretched.ensures.calm
    ∙ (rw c.close_spare-closed.ensures.disk at clean) in
    c.close_spare-closed.ensures.holds kept
    (c.stretch_spare-stretched.ensures.holds before kept
    (c.in-Ok.ensures.opened before kept holds))

pub returns-clause-clean : goal.returns-clause-clean
returns-clause-clean g c clean =
    c.in-Ok.ensures.clean (sym c.stretch_spare-stretched.ensures.calm
    ∙ (rw c.close_spare-closed.ensures.disk at clean))

pub returns-clause-file : goal.returns-clause-file
returns-clause-file g c =
    c.close_spare-closed.ensures.file ∙ c.stretch_spare-stretched.ensures.file
    ∙ c.in-Ok.ensures.file
