use Rattle.std.proofs.Common.{◌≡◌, ℕ, ◌+◌, length}
use Rattle.table_sweep.specs.SnapshotPlaces.{deep}
use Rattle.table_sweep.proofs.depths.depth_at.Given as goal

-- the ancestors so far are counted, and those of the last of them are left
abbrev pub invariant-loop-depth : goal.invariant-loop-depth
invariant-loop-depth l = (rest : ℕ) → rest + l.depth ≡ length l.parents
    → l.depth + deep rest l.parents l.at ≡ deep (length l.parents) l.parents l.fn.place
