use Rattle.std.proofs.Common.{◌≡◌, map, take}
use Rattle.back_model.specs.Shown.{listed_snap, shown, all_snaps}
use Rattle.back_model.proofs.shards.Shards.snaps.Given as goal

abbrev pub invariant-loop-entry : goal.invariant-loop-entry
invariant-loop-entry g l =
    map listed_snap l.snaps.items ≡ all_snaps (map (λ entry. shown g.S.SnapBackend.contents g.S.SnapBackend.fails entry.now) (take l.entry-index l.entry-items))
