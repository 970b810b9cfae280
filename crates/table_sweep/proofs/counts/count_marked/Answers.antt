use Rattle.table_sweep.proofs.Counted.{count_step}
use Rattle.table_sweep.proofs.counts.count_marked.Goals as goal

pub loop-i-preserved : goal.loop-i-preserved
loop-i-preserved c =
    let inv = c.loop-i.invariant in
    let next = count_step c.args.marks.now c.loop-i.i c.loop-i.scanned c.one_if_marked-scanned.result inv.below inv.counted c.one_if_marked-scanned.ensures in
    record { below = next.0; counted = next.1 }
