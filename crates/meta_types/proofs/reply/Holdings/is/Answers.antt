use Rattle.std.proofs.Common.{◌∙◌}
use Rattle.std.specs.Cmp.Lexicographic.{pointwise}
use Rattle.meta_types.proofs.Decided.{told_by, listed}
use Rattle.meta_types.proofs.RowTests.{resource}
use Rattle.meta_types.proofs.reply.Holdings.is.Goals as goal

-- resource by resource, in their order
pub returns : goal.returns
returns c = told_by (c.eq.ensures ∙ (λ i. pointwise resource.same (c.resources.ensures i)
    (c.resources-2.ensures i))) ((listed resource).decides c.args.self.now c.args.holdings.now)
