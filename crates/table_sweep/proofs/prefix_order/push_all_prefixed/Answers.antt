use Rattle.std.proofs.Common.{map}
use Rattle.table_sweep.specs.declared.prefix_order.Prefixed.{Prefixed}
use Rattle.table_sweep.proofs.InSlices.{gone_now}
use Rattle.table_sweep.proofs.prefix_order.push_all_prefixed.Goals as goal

pub loop-i-preserved : goal.loop-i-preserved
loop-i-preserved g c =
    let row_of : Prefixed g.row.R.Denot → g.row.R.Denot = λ one. one.row.now in
    gone_now c.args.mask.now c.args.rows.now c.loop-i.i _ c.index-rows-i.result
    (map row_of c.args.near.now.items)
    (map row_of c.loop-i.near.items) (map row_of c.push_prefixed.new.near.items) c.requires
    c.loop-i-test.true c.index-rows-i.is c.loop-i.invariant c.in_ok-push_prefixed.ensures.ok
