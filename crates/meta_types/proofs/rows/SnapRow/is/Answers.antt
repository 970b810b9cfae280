use Rattle.meta_types.proofs.Decided.{told_by}
use Rattle.meta_types.proofs.RowTests.{snap}
use Rattle.meta_types.proofs.rows.SnapRow.is.Goals as goal

-- field by field
pub returns : goal.returns
returns c = told_by c.eq.ensures (snap.decides c.args.self.now c.args.snapshot.now)
