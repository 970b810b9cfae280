use Rattle.std.proofs.Common.{◌≡◌}
use Rattle.table_sweep.specs.SnapshotPlaces.{depths_to}
use Rattle.table_sweep.proofs.depths.depths_in.Given as goal

-- the depths of the places so far are there
abbrev pub invariant-loop-place : goal.invariant-loop-place
invariant-loop-place l = l.depths.items ≡ depths_to l.parents l.place
