use Rattle.meta_types.proofs.Decided.{told_by}
use Rattle.meta_types.proofs.RowTests.{row}
use Rattle.meta_types.proofs.reply.ReplyRow.is.Goals as goal

-- variant by variant, and in each field by field
pub returns : goal.returns
returns c = told_by c.eq.ensures (row.decides c.args.self.now c.args.row.now)
