use Rattle.std.proofs.Common.{◌≡◌, ◌≤◌, ◌-◌, ℕ, length, get_or}
use Rattle.std.specs.Prelude.{true, false}
use Rattle.table_sweep.specs.SnapshotPlaces.{AreSought, IsRun}
use Rattle.table_sweep.proofs.places.parents_upward.Given as goal

-- those from here on have been sought, and those that go are needed
abbrev pub invariant-loop-done : goal.invariant-loop-done
invariant-loop-done l = record {
  parents : length l.parents.items ≡ length l.fn.snapshots;
  needed : length l.needed.items ≡ length l.fn.snapshots;
  end : l.run.end ≤ length l.fn.snapshots;
  run : IsRun l.fn.snapshots l.run.start l.run.end;
  goes : (k : ℕ) → get_or l.fn.goes k false ≡ true → get_or l.needed.items k false ≡ true;
  sought : AreSought l.fn.snapshots (length l.fn.snapshots - l.done) l.parents.items l.needed.items;
}
