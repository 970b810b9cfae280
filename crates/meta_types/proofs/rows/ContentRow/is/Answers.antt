use Rattle.meta_types.proofs.Decided.{told_by}
use Rattle.meta_types.proofs.RowTests.{content}
use Rattle.meta_types.proofs.rows.ContentRow.is.Goals as goal

-- field by field
pub returns : goal.returns
returns c = told_by c.eq.ensures (content.decides c.args.self.now c.args.content.now)
