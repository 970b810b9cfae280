use Rattle.meta_types.proofs.Promised.{keeps_what_is_reached}
use Rattle.meta_types.proofs.laws.nothing_reached_is_removed.Goals as goal

-- the test tells where paths end, and the rows that it holds of stay
pub returns : goal.returns
returns c = keeps_what_is_reached
