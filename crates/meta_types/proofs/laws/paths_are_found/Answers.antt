use Rattle.meta_types.proofs.Finding.{this_test_tells}
use Rattle.meta_types.proofs.laws.paths_are_found.Goals as goal

-- each pass finds more, or none does
pub returns : goal.returns
returns c = this_test_tells
