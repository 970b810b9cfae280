use Rattle.std.proofs.Common.{◌≡◌, ◌≤◌, length}
use Rattle.std.specs.List.Sorted.{IsPermutation}
use Rattle.table_sweep.proofs.depths.sort_each.Given as goal

-- the same keys, and those of the last snapshotter so far begin before this one
abbrev pub invariant-loop-at : goal.invariant-loop-at
invariant-loop-at l = IsPermutation l.initial.keys l.keys × (l.start ≤ l.at) ×
    (length l.keys ≡ l.at-end)
