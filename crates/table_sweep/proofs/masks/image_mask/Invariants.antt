use Rattle.std.proofs.Common.{◌≡◌, map, take}
use Rattle.meta_types.specs.Paths.{image_stays}
use Rattle.table_sweep.proofs.masks.image_mask.Given as goal

-- the mask says of each row so far whether it stays
abbrev pub invariant-loop-row : goal.invariant-loop-row
invariant-loop-row l = l.mask.items ≡ map (λ row. image_stays l.profile l.at.0 row.now) (take l.row-index l.rows)
