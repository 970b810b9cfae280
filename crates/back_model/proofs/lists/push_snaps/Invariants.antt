use Rattle.std.proofs.Common.{◌≡◌, ◌++◌, map, take}
use Rattle.back_model.specs.Shown.{listed_snap, back_snap}
use Rattle.back_model.proofs.lists.push_snaps.Given as goal

abbrev pub invariant-loop-snap : goal.invariant-loop-snap
invariant-loop-snap g l =
    map listed_snap l.into.items ≡ map listed_snap l.initial.into.items ++ map (back_snap l.snapshotter) (take l.snap-index l.snap-items)
