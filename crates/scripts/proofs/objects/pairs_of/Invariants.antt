use Rattle.std.proofs.Common.{◌≡◌, map, take}
use Rattle.meta_types.specs.Backends.{object_name}
use Rattle.back_model.specs.Shown.{listed_snap}
use Rattle.scripts.proofs.objects.pairs_of.Given as goal

-- the snapshots so far are named
abbrev pub invariant-loop-snap : goal.invariant-loop-snap
invariant-loop-snap l =
    l.names.items ≡ map object_name (map listed_snap (take l.snap-index l.snaps))
