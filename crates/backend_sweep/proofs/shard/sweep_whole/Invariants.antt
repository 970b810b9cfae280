use Rattle.std.proofs.Common.{take}
use Rattle.backend_sweep.specs.Sweep.{Sweeps}
use Rattle.backend_sweep.specs.ShardOutcomes.{all_gone}
use Rattle.backend_sweep.proofs.shard.sweep_whole.Given as goal

-- all numbers so far went
abbrev pub invariant-loop-number : goal.invariant-loop-number
invariant-loop-number g l =
    Sweeps (take l.number-index l.list) (g.S.SnapBackend.contents l.initial.shard)
    (g.S.SnapBackend.contents l.shard) (g.S.SnapBackend.fails l.initial.shard)
    (g.S.SnapBackend.fails l.shard) (all_gone (take l.number-index l.list))
