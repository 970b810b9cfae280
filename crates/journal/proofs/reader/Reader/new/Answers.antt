use Rattle.journal.proofs.ReadOn.{reads_nothing}
use Rattle.journal.proofs.reader.Reader.new.Goals as goal

-- a reader that was given nothing
pub returns : goal.returns
returns c = rw c.new.ensures.items (reads_nothing _ _ _ c.hasher_of-hasher.ensures)
