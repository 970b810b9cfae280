use Rattle.table_sweep.proofs.OwnedBlobs.{gone_step}
use Rattle.table_sweep.proofs.blobs.unowned_as_arrived.Goals as goal

pub loop-i-preserved : goal.loop-i-preserved
loop-i-preserved c =
    gone_step c.args.owned.now c.args.blobs.now c.loop-i.i _ c.index-blobs-i.result
    c.loop-i.gone.items c.push_blob.new.gone.items c.requires.length c.loop-i-test.true
    c.index-blobs-i.is c.loop-i.invariant c.in_ok-push_blob.ensures.ok
