use Rattle.std.proofs.Common.{refl}
use Rattle.row_tables.specs.Folded.{folded_multiply}
use Rattle.row_tables.proofs.seed.folded.folded_multiply.Goals as goal

pub returns : goal.returns
unfolding folded_multiply
returns c = refl
