use Rattle.row_tables.specs.Folded.{read_u64}
use Rattle.row_tables.proofs.seed.folded.read_u64.Goals as goal

pub returns : goal.returns
unfolding read_u64
returns c = rw (c.read_u32.ensures, c.read_u32-2.ensures)
