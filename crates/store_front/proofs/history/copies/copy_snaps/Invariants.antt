use Rattle.std.proofs.Common.{◌≡◌, take}
use Rattle.store_front.proofs.history.copies.copy_snaps.Given as goal

abbrev pub invariant-loop-snap : goal.invariant-loop-snap
invariant-loop-snap l = l.copies.items ≡ take l.snap-index l.snaps
