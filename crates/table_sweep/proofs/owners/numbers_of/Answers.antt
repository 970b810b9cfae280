use Rattle.std.proofs.Common.{Bor, List}
use Rattle.meta_types.specs.declared.rows.IngestRow.{IngestRow}
use Rattle.table_sweep.proofs.InSlices.{has_part, next_part, kept_names}
use Rattle.table_sweep.proofs.owners.numbers_of.Goals as goal

-- the mask has a part for the slice
pub split_at-requires : goal.split_at-requires
split_at-requires c =
    has_part (λ (s : Bor (List IngestRow)). s.now) c.as_slices-slices.result.now
    c.args.rows.now c.args.mask.now c.loop-slice.rest.now c.loop-slice.slice-index
    c.slice-item.result c.as_slices-slices.ensures c.requires c.loop-slice-test.true
    c.slice-item.is c.loop-slice.invariant.rest

pub loop-slice-preserved : goal.loop-slice-preserved
loop-slice-preserved c =
    let rest = next_part
    (λ (s : Bor (List IngestRow)). s.now) c.as_slices-slices.result.now
    c.args.rows.now c.args.mask.now c.loop-slice.rest.now c.loop-slice.slice-index
    c.slice-item.result c.as_slices-slices.ensures c.requires c.loop-slice-test.true
    c.slice-item.is c.loop-slice.invariant.rest
    c.split_at.result.0.now c.split_at.result.1.now c.split_at.ensures.front
    c.split_at.ensures.back in
    let made = kept_names
    (λ (s : Bor (List IngestRow)). s.now) c.as_slices-slices.result.now
    c.args.rows.now c.args.mask.now c.loop-slice.rest.now c.loop-slice.slice-index
    c.slice-item.result c.as_slices-slices.ensures c.requires c.loop-slice-test.true
    c.slice-item.is c.loop-slice.invariant.rest
    c.split_at.result.0.now c.split_at.result.1.now c.split_at.ensures.front
    c.split_at.ensures.back
    (λ (row : IngestRow). row.number)
    c.loop-slice.numbers.items
    c.push_numbers.new.numbers.items c.loop-slice.invariant.made c.in_ok-push_numbers.ensures.ok in
    record { rest = rest; made = made }
