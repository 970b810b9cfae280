use Rattle.journal.proofs.Growing.{zeros_change_nothing}
use Rattle.journal.proofs.laws.zeros_change_nothing.Goals as goal

-- zeros make no line
pub returns : goal.returns
returns c = record { found = zeros_change_nothing }
