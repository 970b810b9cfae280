use Rattle.store_folder.proofs.Notes.{witness_left, own_left, card_left}
use Rattle.store_folder.proofs.laws.notes_leave_the_lines.Goals as goal

-- a witness that is put into the other file leaves the lines
pub returns-clause-witness : goal.returns-clause-witness
returns-clause-witness c counts other left lines put finds is up true_of out =
    witness_left counts other left lines put finds is c.files_of_a_store_fit.ensures.witness up
    true_of out

-- so does one in the file that counts
pub returns-clause-own : goal.returns-clause-own
returns-clause-own c counts other left lines put finds is up true_of out =
    own_left counts other left lines put finds is c.files_of_a_store_fit.ensures.witness up
    true_of out

-- so does a card in the other file
pub returns-clause-card : goal.returns-clause-card
returns-clause-card c counts other left lines put finds is next out =
    card_left counts other left lines put finds is c.files_of_a_store_fit.ensures.card next out
