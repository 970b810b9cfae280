use Rattle.kept_store.proofs.Replayed.{requests_in-journal}
use Rattle.kept_store.proofs.laws.journals_replay.Goals as goal

-- commit lines, and only these, are left out of a journal's lines
pub returns : goal.returns
returns c = record { lines = requests_in-journal }
