use Rattle.std.proofs.Common.{◌≡◌, map, take}
use Rattle.meta_types.specs.Paths.{lease_stays}
use Rattle.table_sweep.proofs.masks.lease_mask.Given as goal

-- the mask says of each lease so far whether it stays
abbrev pub invariant-loop-row : goal.invariant-loop-row
invariant-loop-row l = l.mask.items ≡ map (λ row. lease_stays l.at.0 row.now) (take l.row-index l.rows)
