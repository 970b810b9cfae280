use Rattle.std.proofs.Common.{rules}
use Rattle.table_sweep.proofs.OwnedBlobs.{row_stays}
use Rattle.table_sweep.proofs.blobs.own_blob.Goals as goal

pub returns-clause-marks : goal.returns-clause-marks
returns-clause-marks c before is =
    row_stays c.args.row.now.digest before c.args.stays c.args.blobs.now _ (search rules)
    (c.mark_blob.ensures.marks before is)
