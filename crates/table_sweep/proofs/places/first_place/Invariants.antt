use Rattle.std.proofs.Common.{◌≡◌, ◌<◌, ℕ, false}
use Rattle.std.specs.Prelude.{slice_index_or}
use Rattle.table_sweep.specs.Depths.{Listed}
use Rattle.table_sweep.specs.SnapshotPlaces.{has_name}
use Rattle.table_sweep.proofs.places.first_place.Given as goal

-- none so far has the name
abbrev pub invariant-loop-i : goal.invariant-loop-i
invariant-loop-i l = (k : ℕ) (d : Listed) → k < l.i → has_name (l.fn.snapshotter, l.fn.number) (slice_index_or l.fn.snapshots k d) ≡ false
