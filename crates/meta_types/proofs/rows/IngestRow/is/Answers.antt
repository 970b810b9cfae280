use Rattle.meta_types.proofs.Decided.{told_by}
use Rattle.meta_types.proofs.RowTests.{ingest}
use Rattle.meta_types.proofs.rows.IngestRow.is.Goals as goal

-- field by field
pub returns : goal.returns
returns c = told_by c.eq.ensures (ingest.decides c.args.self.now c.args.ingest.now)
