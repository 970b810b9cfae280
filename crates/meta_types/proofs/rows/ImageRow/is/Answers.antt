use Rattle.meta_types.proofs.Decided.{told_by}
use Rattle.meta_types.proofs.RowTests.{image}
use Rattle.meta_types.proofs.rows.ImageRow.is.Goals as goal

-- field by field
pub returns : goal.returns
returns c = told_by c.eq.ensures (image.decides c.args.self.now c.args.image.now)
