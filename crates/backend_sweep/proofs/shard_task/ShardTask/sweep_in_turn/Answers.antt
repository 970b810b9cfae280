use Rattle.std.proofs.Common.{◌∙◌, sym, ap, subst, length}
use Rattle.backend_sweep.specs.Tasks.{AreReady}
use Rattle.backend_sweep.proofs.Backs.{swept_whole}
use Rattle.backend_sweep.proofs.shard_task.ShardTask.sweep_in_turn.Goals as goal

-- the jobs are lent as a slice
pub sweep_jobs_in_turn-requires-after_bounds : goal.sweep_jobs_in_turn-requires-after_bounds
sweep_jobs_in_turn-requires-after_bounds g c κs within =
    subst (AreReady g.S.SnapBackend.contents g.S.SnapBackend.fails) (sym (c.deref_mut.ensures.value ∙ c.self.view_is)) c.requires

pub returns : goal.returns
returns g c =
    swept_whole g.S.SnapBackend.contents g.S.SnapBackend.fails c.args.self.now c.deref_mut.result.now c.sweep_jobs_in_turn.new.jobs _ _ (c.deref_mut.ensures.value ∙ c.self.view_is)
    (c.self.inside.jobs.ok.0 ∙ ap length c.self.view_is) c.sweep_jobs_in_turn.ensures
