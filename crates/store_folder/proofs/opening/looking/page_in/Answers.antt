use Rattle.std.proofs.Common.{◌∙◌, ap, sym}
use Rattle.store_folder.specs.Openings.{has_step}
use Rattle.store_folder.proofs.OpeningPages.{page_none, page_some}
use Rattle.store_folder.proofs.opening.looking.page_in.Goals as goal

-- no step is believed
pub returns-then-not-has_step : goal.returns-then-not-has_step
returns-then-not-has_step c file is =
    page_none file c.args.front.now is
    (ap has_step (sym c.behind.ensures) ∙ sym c.has_step-has_step.ensures
    ∙ c.if-not-has_step.true)

pub returns : goal.returns
returns c file is =
    c.behind-2.ensures ∙ page_some file c.args.front.now is
    (ap has_step (sym c.behind.ensures) ∙ sym c.has_step-has_step.ensures
    ∙ c.if-not-has_step.false)
