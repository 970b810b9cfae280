use Rattle.meta_types.specs.contracts.request.Removal.{enum}
use denote.Ref.{NamedLft}
use Rattle.meta_types.proofs.Decided.{told_by, one, ◌⊕◌, Tests, by_decides}
use Rattle.meta_types.proofs.RequestTests.{any, name}
use Rattle.meta_types.proofs.request.Removal.is.Goals as goal

tests : (k : NamedLft) → Tests (enum k).parts
tests k = one (name k) ⊕ one (name k) ⊕ tt

-- variant by variant, and in each field by field
pub returns : goal.returns
unfolding tests
returns c = told_by c.eq.ensures (by_decides (enum any) (tests any) c.args.self.now c.args.removal.now)
