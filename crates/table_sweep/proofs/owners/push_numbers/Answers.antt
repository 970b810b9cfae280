use Rattle.meta_types.specs.declared.rows.IngestRow.{IngestRow}
use Rattle.table_sweep.proofs.InSlices.{kept_row}
use Rattle.table_sweep.proofs.owners.push_numbers.Goals as goal

pub loop-i-preserved : goal.loop-i-preserved
loop-i-preserved c =
    kept_row (λ (row : IngestRow). row.number)
    c.args.mask.now c.args.rows.now c.loop-i.i _ c.index-rows-i.result c.args.numbers.now.items
    c.loop-i.numbers.items c.push_number.new.numbers.items c.requires c.loop-i-test.true
    c.index-rows-i.is c.loop-i.invariant c.in_ok-push_number.ensures.ok
