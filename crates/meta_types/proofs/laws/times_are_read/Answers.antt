use Rattle.std.proofs.Common.{refl}
use Rattle.meta_types.proofs.laws.times_are_read.Goals as goal

-- computed
pub returns-clause-times : goal.returns-clause-times
returns-clause-times c = refl

-- computed
pub returns-clause-others : goal.returns-clause-others
returns-clause-others c = refl
