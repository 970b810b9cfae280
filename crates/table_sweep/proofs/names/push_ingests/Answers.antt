use Rattle.meta_types.specs.declared.rows.IngestRow.{IngestRow}
use Rattle.table_sweep.proofs.InSlices.{gone_row}
use Rattle.table_sweep.proofs.names.push_ingests.Goals as goal

pub loop-i-preserved : goal.loop-i-preserved
loop-i-preserved c =
    gone_row (λ (row : IngestRow). (row.ns, row.name))
    c.args.mask.now c.args.rows.now c.loop-i.i _ c.index-rows-i.result c.args.names.now.items
    c.loop-i.names.items c.push_ingest.new.names.items c.requires c.loop-i-test.true
    c.index-rows-i.is c.loop-i.invariant c.in_ok-push_ingest.ensures.ok
