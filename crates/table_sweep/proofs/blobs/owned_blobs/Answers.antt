use Rattle.std.proofs.Common.{◌∙◌, ◌++◌, ap, sym, map, length, take, false, rules, refl, Bor, List}
use Rattle.std.specs.List.{flat_map}
use Rattle.std.proofs.lemmas.List.{length-map}
use Rattle.std.proofs.lemmas.Simd.{splat_is_map}
use Rattle.object_tables.specs.Calls.{kept}
use Rattle.meta_types.specs.declared.rows.ContentRow.{ContentRow}
use Rattle.table_sweep.specs.Owned.{owns_blob}
use Rattle.table_sweep.proofs.InSlices.{has_part, part_long, next_part, kept_slice}
use Rattle.table_sweep.proofs.blobs.owned_blobs.Goals as goal

-- no row owns a blob yet
pub loop-slice-init : goal.loop-slice-init
loop-slice-init c = record {
  rest = refl;
  made = c.in_ok-owned.ensures.items_if_clones_equal (λ y e. search rules)
      ∙ splat_is_map c.args.blobs.now c.len.result false (sym c.len.ensures.len);
}

-- the mask has a part for the slice
pub split_at-requires : goal.split_at-requires
split_at-requires c =
    has_part (λ (s : Bor (List ContentRow)). s.now) c.as_slices-slices.result.now
    c.args.rows.now c.args.mask.now c.loop-slice.rest.now c.loop-slice.slice-index
    c.slice-item.result c.as_slices-slices.ensures c.requires c.loop-slice-test.true
    c.slice-item.is c.loop-slice.invariant.rest

-- each blob has a place among the marks
pub own_blobs-requires : goal.own_blobs-requires
own_blobs-requires c = record {
  mask = part_long (λ (s : Bor (List ContentRow)). s.now) c.as_slices-slices.result.now
      c.args.rows.now c.args.mask.now c.loop-slice.rest.now c.loop-slice.slice-index
      c.slice-item.result c.as_slices-slices.ensures c.requires c.loop-slice-test.true
      c.slice-item.is c.loop-slice.invariant.rest
      c.split_at.result.0.now c.split_at.result.1.now c.split_at.ensures.front
      c.split_at.ensures.back;
  owned = ap length c.loop-slice.invariant.made ∙ length-map c.args.blobs.now _;
}

pub loop-slice-preserved : goal.loop-slice-preserved
loop-slice-preserved c =
    let before : List ContentRow = flat_map (λ (s : Bor (List ContentRow)). s.now)
    (take c.loop-slice.slice-index c.as_slices-slices.result.now) in
    let own : List ContentRow = kept (take (length before) c.args.mask.now) before in
    let rest = next_part
    (λ (s : Bor (List ContentRow)). s.now) c.as_slices-slices.result.now
    c.args.rows.now c.args.mask.now c.loop-slice.rest.now c.loop-slice.slice-index
    c.slice-item.result c.as_slices-slices.ensures c.requires c.loop-slice-test.true
    c.slice-item.is c.loop-slice.invariant.rest
    c.split_at.result.0.now c.split_at.result.1.now c.split_at.ensures.front
    c.split_at.ensures.back in
    let more = kept_slice
    (λ (s : Bor (List ContentRow)). s.now) c.as_slices-slices.result.now
    c.args.rows.now c.args.mask.now c.loop-slice.rest.now c.loop-slice.slice-index
    c.slice-item.result c.as_slices-slices.ensures c.requires c.loop-slice-test.true
    c.slice-item.is c.loop-slice.invariant.rest
    c.split_at.result.0.now c.split_at.result.1.now c.split_at.ensures.front
    c.split_at.ensures.back
    own (own ++ kept c.split_at.result.0.now c.slice-item.result.now) refl refl in
    record {
      rest = rest;
      made = c.own_blobs.ensures own c.loop-slice.invariant.made
          ∙ ap (λ (l : List ContentRow). map (owns_blob l) c.args.blobs.now) more;
    }
