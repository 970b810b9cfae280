use Rattle.row_tables.specs.Folded.{read_u32}
use Rattle.row_tables.proofs.seed.folded.read_u32.Goals as goal

pub returns : goal.returns
unfolding read_u32
returns c = c.from_le_bytes.ensures
