use Rattle.store_folder.proofs.Lost.{lost_left}
use Rattle.store_folder.proofs.laws.lost_bytes_leave_the_lines.Goals as goal

-- a note that can be read lost none
pub returns : goal.returns
returns c = record { lost = lost_left c.files_of_a_store_fit.ensures.lost }
