use Rattle.table_sweep.proofs.OwnedBlobs.{marked_there, marked_nowhere}
use Rattle.table_sweep.proofs.blobs.mark_blob.Goals as goal

-- the backend has no such blob
pub returns-in_default-clause-marks : goal.returns-in_default-clause-marks
returns-in_default-clause-marks c before is = marked_nowhere c.args.digest.now before c.args.blobs.now c.args.owned.now.items c.rows-digests.ensures.distinct c.in_default.ensures.place is

-- no other place has it
pub returns-clause-marks : goal.returns-clause-marks
returns-clause-marks c before is = marked_there c.args.digest.now before c.args.blobs.now c.args.owned.now.items c.in-Some.place c.rows-digests.ensures.distinct c.in-Some.ensures.place is
