use Rattle.store_folder.proofs.OpeningNotes.{has_card, never_unfit}
use Rattle.store_folder.proofs.opening.recovering.find_card.Goals as goal

pub returns-clause-card : goal.returns-clause-card
returns-clause-card g c clean =
    has_card (g.L.Log.text c.args.log.now) c.in-Ok.own c.args.other c.in-Ok-fitting_card.card
    (c.in-Ok.ensures.card clean) (c.in-Ok.ensures.witness clean)
    c.in-Ok-fitting_card.ensures.card c.in-Ok-fitting_card.ensures.fits

-- notes of files in which a start finds lines fit
pub returns-in-Err-fitting_card-clause-refuses : goal.returns-in-Err-fitting_card-clause-refuses
returns-in-Err-fitting_card-clause-refuses g c clean standby lines cards witnesses finds =
    absurd (never_unfit (g.L.Log.text c.args.log.now) standby lines finds c.in-Ok.own c.args.other
    c.in-Err-fitting_card.error (c.in-Ok.ensures.card clean) (c.in-Ok.ensures.witness clean) cards
    witnesses c.in-Err-fitting_card.ensures.unfit)
