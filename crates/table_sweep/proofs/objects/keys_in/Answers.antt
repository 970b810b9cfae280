use Rattle.table_sweep.proofs.Permuted.{key_step}
use Rattle.table_sweep.proofs.objects.keys_in.Goals as goal

pub loop-i-preserved : goal.loop-i-preserved
loop-i-preserved c =
    key_step c.args.snapshots.now c.args.goes.now c.args.depths.now c.loop-i.i _ _
    c.index-snapshots-i.result c.loop-i.keys.items c.push_key.new.keys.items
    c.requires.goes c.requires.depths c.loop-i-test.true c.index-snapshots-i.is c.loop-i.invariant
    c.in_ok-push_key.ensures.ok
