use Rattle.meta_types.proofs.Decided.{told_by}
use Rattle.meta_types.proofs.RowTests.{container}
use Rattle.meta_types.proofs.rows.ContainerRow.is.Goals as goal

-- field by field
pub returns : goal.returns
returns c = told_by c.eq.ensures (container.decides c.args.self.now c.args.container.now)
