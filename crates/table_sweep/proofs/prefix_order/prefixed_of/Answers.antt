use Rattle.std.proofs.Common.{Bor, List, map}
use Rattle.table_sweep.specs.declared.prefix_order.Prefixed.{Prefixed}
use Rattle.table_sweep.proofs.InSlices.{has_part, next_part, gone_slice}
use Rattle.table_sweep.proofs.prefix_order.prefixed_of.Goals as goal

-- the mask has a part for the slice
pub split_at-requires : goal.split_at-requires
split_at-requires g c =
    has_part (λ (s : Bor (List g.row.R.Denot)). s.now) c.as_slices-slices.result.now
    c.args.rows.now c.args.mask.now c.loop-slice.rest.now c.loop-slice.slice-index
    c.slice-item.result c.as_slices-slices.ensures c.requires c.loop-slice-test.true
    c.slice-item.is c.loop-slice.invariant.rest

pub loop-slice-preserved : goal.loop-slice-preserved
loop-slice-preserved g c =
    let rest = next_part
    (λ (s : Bor (List g.row.R.Denot)). s.now) c.as_slices-slices.result.now
    c.args.rows.now c.args.mask.now c.loop-slice.rest.now c.loop-slice.slice-index
    c.slice-item.result c.as_slices-slices.ensures c.requires c.loop-slice-test.true
    c.slice-item.is c.loop-slice.invariant.rest
    c.split_at.result.0.now c.split_at.result.1.now c.split_at.ensures.front
    c.split_at.ensures.back in
    let made = gone_slice
    (λ (s : Bor (List g.row.R.Denot)). s.now) c.as_slices-slices.result.now
    c.args.rows.now c.args.mask.now c.loop-slice.rest.now c.loop-slice.slice-index
    c.slice-item.result c.as_slices-slices.ensures c.requires c.loop-slice-test.true
    c.slice-item.is c.loop-slice.invariant.rest
    c.split_at.result.0.now c.split_at.result.1.now c.split_at.ensures.front
    c.split_at.ensures.back
    (map (λ (one : Prefixed g.row.R.Denot). one.row.now) c.loop-slice.near.items)
    (map (λ (one : Prefixed g.row.R.Denot). one.row.now) c.push_all_prefixed.new.near.items)
    c.loop-slice.invariant.made c.in_ok-push_all_prefixed.ensures.ok in
    record { rest = rest; made = made }
