use Rattle.journal.proofs.Witnesses.{witness_found}
use Rattle.journal.proofs.laws.a_witness_is_found.Goals as goal

-- a witness is found where groups were added since it was put
pub returns : goal.returns
returns c = record { found = witness_found }
