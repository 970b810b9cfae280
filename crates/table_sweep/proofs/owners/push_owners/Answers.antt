use Rattle.std.proofs.Common.{Bor, map}
use Rattle.meta_types.specs.declared.rows.SnapRow.{SnapRow}
use Rattle.table_sweep.proofs.InSlices.{kept_now}
use Rattle.table_sweep.proofs.owners.push_owners.Goals as goal

pub loop-i-preserved : goal.loop-i-preserved
loop-i-preserved c =
    kept_now c.args.mask.now c.args.rows.now c.loop-i.i _ c.index-rows-i.result
    (map (λ (owner : Bor SnapRow). owner.now) c.args.owners.now.items)
    (map (λ (owner : Bor SnapRow). owner.now) c.loop-i.owners.items)
    (map (λ (owner : Bor SnapRow). owner.now) c.push_owner.new.owners.items) c.requires
    c.loop-i-test.true c.index-rows-i.is c.loop-i.invariant c.in_ok-push_owner.ensures.ok
