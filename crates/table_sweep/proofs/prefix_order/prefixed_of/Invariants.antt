use Rattle.std.proofs.Common.{◌≡◌, map, length, take, drop}
use Rattle.std.specs.List.{flat_map}
use Rattle.table_sweep.specs.Masks.{gone}
use Rattle.table_sweep.proofs.prefix_order.prefixed_of.Given as goal

-- the rows of the slices so far, by their part of the mask
abbrev pub invariant-loop-slice : goal.invariant-loop-slice
invariant-loop-slice g l = record {
  rest : l.rest ≡ drop (length (flat_map (λ s. s.now) (take l.slice-index l.slices))) l.mask;
  made : map (λ one. one.row.now) l.near.items
      ≡ gone (take (length (flat_map (λ s. s.now) (take l.slice-index l.slices))) l.mask)
      (flat_map (λ s. s.now) (take l.slice-index l.slices));
}
