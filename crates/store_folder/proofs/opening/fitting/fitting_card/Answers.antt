use Rattle.std.proofs.Common.{◌∙◌, ap, sym}
use Rattle.store_folder.specs.Openings.{unfit_by}
use Rattle.store_folder.proofs.opening.fitting.fitting_card.Goals as goal

pub returns-clause-fits : goal.returns-clause-fits
returns-clause-fits c =
    rw c.in-Some.is (ap unfit_by (sym c.bond_of.ensures) ∙ sym c.unfit_by-unfit.ensures
    ∙ c.in-None.is)

pub returns-in-Some-unfit-clause-unfit : goal.returns-in-Some-unfit-clause-unfit
returns-in-Some-unfit-clause-unfit c =
    rw c.in-Some.is (ap unfit_by (sym c.bond_of.ensures) ∙ sym c.unfit_by-unfit.ensures
    ∙ c.in-Some-unfit.is)
