use Rattle.meta_types.proofs.Decided.{told_by, listed, ◌⊗◌, text}
use Rattle.gc_report.proofs.same.are_same_contents.Goals as goal

-- item by item, in their order
pub returns : goal.returns
returns c = told_by c.eq.ensures ((listed (text ⊗ text)).decides c.args.one.now c.args.two.now)
