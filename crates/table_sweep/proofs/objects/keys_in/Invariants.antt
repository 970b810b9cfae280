use Rattle.std.proofs.Common.{◌≡◌, map, take}
use Rattle.object_tables.specs.Calls.{kept}
use Rattle.table_sweep.specs.Depths.{key_of}
use Rattle.table_sweep.proofs.objects.keys_in.Given as goal

-- those so far that go are there
abbrev pub invariant-loop-i : goal.invariant-loop-i
invariant-loop-i l = l.keys.items ≡ map (key_of l.snapshots)
    (kept (take l.i l.goes) (take l.i l.snapshots))
