use Rattle.std.proofs.Common.{◌≡◌, map, take}
use Rattle.table_sweep.specs.Owned.{is_snap_removed}
use Rattle.table_sweep.proofs.owners.snaps_go.Given as goal

-- of those so far it is known
abbrev pub invariant-loop-snap : goal.invariant-loop-snap
invariant-loop-snap l = l.goes.items ≡ map (is_snap_removed (map (λ owner. owner.now) l.owners))
    (take l.snap-index l.snapshots)
