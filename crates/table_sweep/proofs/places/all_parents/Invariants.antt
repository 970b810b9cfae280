use Rattle.std.proofs.Common.{◌≡◌, ◌≤◌, map, take, length}
use Rattle.table_sweep.specs.SnapshotPlaces.{parent_place, IsRun}
use Rattle.table_sweep.proofs.places.all_parents.Given as goal

-- the parents so far have their places
abbrev pub invariant-loop-at : goal.invariant-loop-at
invariant-loop-at l = record {
  parents : l.parents.items ≡ map (parent_place l.fn.snapshots) (take l.at l.fn.snapshots);
  end : l.run.end ≤ length l.fn.snapshots;
  run : IsRun l.fn.snapshots l.run.start l.run.end;
}
