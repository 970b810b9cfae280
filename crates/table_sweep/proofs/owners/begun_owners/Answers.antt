use Rattle.std.proofs.Common.{ℕ, List, subst}
use Rattle.std.specs.List.Sorted.{IsPermutation}
use Rattle.table_sweep.proofs.owners.begun_owners.Goals as goal

-- a sort leaves out no number
pub returns-clause-all : goal.returns-clause-all
returns-clause-all c = subst (λ (l : List ℕ). IsPermutation l c.sort_unstable.new.self.items) c.in_ok-numbers.ensures.ok c.sort_unstable.ensures.permutation
