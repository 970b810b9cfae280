use Rattle.std.proofs.Common.{Bor, List}
use Rattle.meta_types.specs.declared.rows.ContentRow.{ContentRow}
use Rattle.table_sweep.proofs.InSlices.{has_part, next_part, gone_names}
use Rattle.table_sweep.proofs.names.content_as_arrived.Goals as goal

-- the mask has a part for the slice
pub split_at-requires : goal.split_at-requires
split_at-requires c =
    has_part (λ (s : Bor (List ContentRow)). s.now) c.as_slices-slices.result.now
    c.args.rows.now c.args.mask.now c.loop-slice.rest.now c.loop-slice.slice-index
    c.slice-item.result c.as_slices-slices.ensures c.requires.length c.loop-slice-test.true
    c.slice-item.is c.loop-slice.invariant.rest

pub loop-slice-preserved : goal.loop-slice-preserved
loop-slice-preserved c =
    let rest = next_part
    (λ (s : Bor (List ContentRow)). s.now) c.as_slices-slices.result.now
    c.args.rows.now c.args.mask.now c.loop-slice.rest.now c.loop-slice.slice-index
    c.slice-item.result c.as_slices-slices.ensures c.requires.length c.loop-slice-test.true
    c.slice-item.is c.loop-slice.invariant.rest
    c.split_at.result.0.now c.split_at.result.1.now c.split_at.ensures.front
    c.split_at.ensures.back in
    let made = gone_names
    (λ (s : Bor (List ContentRow)). s.now) c.as_slices-slices.result.now
    c.args.rows.now c.args.mask.now c.loop-slice.rest.now c.loop-slice.slice-index
    c.slice-item.result c.as_slices-slices.ensures c.requires.length c.loop-slice-test.true
    c.slice-item.is c.loop-slice.invariant.rest
    c.split_at.result.0.now c.split_at.result.1.now c.split_at.ensures.front
    c.split_at.ensures.back
    (λ (row : ContentRow). (row.ns, row.digest))
    c.loop-slice.names.items
    c.push_all_content.new.names.items c.loop-slice.invariant.made c.in_ok-push_all_content.ensures.ok in
    record { rest = rest; made = made }
