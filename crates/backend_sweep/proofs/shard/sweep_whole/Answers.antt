use Rattle.std.proofs.Common.{subst, List, ℕ}
use Rattle.std.proofs.lemmas.List.{take_all}
use Rattle.backend_sweep.specs.Sweep.{Sweeps}
use Rattle.backend_sweep.specs.ShardOutcomes.{all_gone}
use Rattle.backend_sweep.proofs.Unfailing.{goes, held, no_child, next_gone}
use Rattle.backend_sweep.proofs.shard.sweep_whole.Goals as goal

pub try_remove-requires-clause-held : goal.try_remove-requires-clause-held
try_remove-requires-clause-held g c κs within =
    held c.args.list.now c.loop-number.number-index _ _ _ _ c.loop-number-test.true c.requires.list
    c.loop-number.invariant

-- none stays that was before it
pub try_remove-requires-clause-children : goal.try_remove-requires-clause-children
try_remove-requires-clause-children g c κs within none =
    no_child c.args.list.now c.loop-number.number-index _ _ _ _ c.loop-number-test.true
    c.requires.list c.loop-number.invariant

pub loop-number-preserved : goal.loop-number-preserved
loop-number-preserved g c =
    next_gone c.args.list.now c.loop-number.number-index _ _ _ _ c.loop-number-test.true
    c.requires.list c.loop-number.invariant _ _
    (goes g.S.SnapBackend.fails c.requires.never c.loop-number.shard c.try_remove.new.shard
    c.try_remove.result _ _ _ c.try_remove.ensures)

pub returns : goal.returns
returns g c =
    subst (λ (l : List ℕ). Sweeps l (g.S.SnapBackend.contents c.args.shard.now)
    (g.S.SnapBackend.contents c.loop-number.shard) (g.S.SnapBackend.fails c.args.shard.now)
    (g.S.SnapBackend.fails c.loop-number.shard) (all_gone l))
    (take_all c.loop-number.number-index c.args.list.now c.loop-number-test.false)
    c.loop-number.invariant
