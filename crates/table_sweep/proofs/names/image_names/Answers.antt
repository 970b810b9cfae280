use Rattle.std.proofs.Common.{Bor}
use Rattle.meta_types.specs.declared.rows.ImageRow.{ImageRow}
use Rattle.table_sweep.proofs.RemovedNames.{names_step}
use Rattle.table_sweep.proofs.names.image_names.Goals as goal

pub loop-i-preserved : goal.loop-i-preserved
loop-i-preserved c =
    names_step (λ (row : Bor ImageRow). (row.now.ns, row.now.name)) c.args.mask.now c.args.rows.now c.loop-i.i _ c.index-rows-i.result
    c.loop-i.names.items c.push_image.new.names.items c.requires c.loop-i-test.true c.index-rows-i.is c.loop-i.invariant c.in_ok-push_image.ensures.ok
