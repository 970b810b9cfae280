use Rattle.journal.proofs.Bonding.{crash_fits, witness_leaves, card_leaves, lost_leaves, choice_turns}
use Rattle.journal.proofs.laws.files_of_a_store_fit.Goals as goal

-- what a crash leaves fits
pub returns-clause-fits : goal.returns-clause-fits
returns-clause-fits c = crash_fits

-- a witness that is put leaves them files of one store
pub returns-clause-witness : goal.returns-clause-witness
returns-clause-witness c = witness_leaves

-- a card that is put leaves them files of one store
pub returns-clause-card : goal.returns-clause-card
returns-clause-card c = card_leaves

-- lost notes leave them files of one store
pub returns-clause-lost : goal.returns-clause-lost
returns-clause-lost c = lost_leaves

-- a choice of the other file leaves them files of one store
pub returns-clause-turns : goal.returns-clause-turns
returns-clause-turns c = choice_turns
