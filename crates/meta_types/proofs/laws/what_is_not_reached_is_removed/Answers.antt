use Rattle.meta_types.proofs.Promised.{removes_what_is_not_reached}
use Rattle.meta_types.proofs.laws.what_is_not_reached_is_removed.Goals as goal

-- the test tells where no path ends, and the rows that it fails of go
pub returns : goal.returns
returns c = removes_what_is_not_reached
