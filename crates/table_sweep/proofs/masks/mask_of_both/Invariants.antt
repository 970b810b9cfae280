use Rattle.std.proofs.Common.{◌≡◌}
use Rattle.table_sweep.specs.Masks.{mask_of_both}
use Rattle.table_sweep.proofs.masks.mask_of_both.Given as goal

-- the mask says of each row so far whether it stays
abbrev pub invariant-loop-i : goal.invariant-loop-i
invariant-loop-i l = l.mask.items ≡ mask_of_both l.marks l.full l.flat l.i
