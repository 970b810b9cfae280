use Rattle.std.proofs.Common.{◌≡◌, map, take}
use Rattle.back_model.specs.Shown.{listed_snap}
use Rattle.checkpoint.proofs.same.objects.are_same_snaps.Given as goal

-- the snapshots so far are the same
abbrev pub invariant-loop-place : goal.invariant-loop-place
invariant-loop-place l =
    take l.place (map listed_snap l.snaps) ≡ take l.place (map listed_snap l.others)
