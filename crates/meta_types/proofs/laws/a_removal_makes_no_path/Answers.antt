use Rattle.meta_types.proofs.WithoutRow.{no_new_path}
use Rattle.meta_types.proofs.laws.a_removal_makes_no_path.Goals as goal

-- what a removal leaves was there, and its edges and roots are the same
pub returns : goal.returns
returns c = λ state ns object at last path p. no_new_path state ns object at last path p
