use Rattle.std.proofs.Common.{◌≤◌, ◌+◌, length, take}
use Rattle.backend_sweep.specs.Sweep.{Sweeps}
use Rattle.backend_sweep.proofs.Blocking.{Blocks}
use Rattle.backend_sweep.proofs.shard.sweep_shard.Given as goal

abbrev pub invariant-loop-number : goal.invariant-loop-number
invariant-loop-number g l = record {
  swept : Sweeps (take l.number-index l.list) (g.S.SnapBackend.contents l.initial.shard) (g.S.SnapBackend.contents l.shard) (g.S.SnapBackend.fails l.initial.shard) (g.S.SnapBackend.fails l.shard) l.swept;
  blocks : Blocks (g.S.SnapBackend.contents l.initial.shard) l.swept;
  room : length l.list ≤ l.swept.room + l.number-index;
}
