use Rattle.std.proofs.Common.{◌∙◌, sym, ap, subst, map}
use Rattle.std.specs.Prelude.{filter}
use Rattle.back_model.specs.Shown.{AreApart, shown}
use Rattle.backend_sweep.specs.ShardPlans.{outcome_of}
use Rattle.backend_sweep.specs.Tasks.{entries_in, shard_plans_in, is_left}
use Rattle.backend_sweep.proofs.LeftShards.{still_apart}
use Rattle.backend_sweep.proofs.shard_task.ShardTask.put_back.Goals as goal

-- the shards are those of the jobs, but for those that go
pub put_shards-requires-after_bounds : goal.put_shards-requires-after_bounds
put_shards-requires-after_bounds g c κs within =
    let names = c.deref.result.now in
    let stays = is_left g.S.SnapBackend.contents g.S.SnapBackend.fails names in
    subst (λ l. AreApart (map (shown g.S.SnapBackend.contents g.S.SnapBackend.fails) l))
    (sym (c.leave_out.ensures
    ∙ ap (filter stays) (c.part_jobs.ensures.shards ∙ ap entries_in c.self.view_is)))
    (still_apart g.S.SnapBackend.contents g.S.SnapBackend.fails names
    (entries_in c.args.self) c.requires.apart)

pub returns-clause-shards : goal.returns-clause-shards
returns-clause-shards g c =
    let stays = is_left g.S.SnapBackend.contents g.S.SnapBackend.fails in
    let view = shown g.S.SnapBackend.contents g.S.SnapBackend.fails in
    c.put_shards.ensures
    ∙ ap (λ l. record c.args.backends.now { shards = map view l })
    (c.leave_out.ensures
    ∙ ap (filter (stays c.deref.result.now)) (c.part_jobs.ensures.shards ∙ ap entries_in c.self.view_is)
    ∙ ap (λ names. filter (stays names) (entries_in c.args.self)) (c.deref.ensures.value ∙ ap (λ i. i.0.1.1.0.backend.snapshots) c.plan-inside.view_is
    ∙ ap (λ p. p.report.backend.snapshots) c.plan.view_is))

-- and so are their plans
pub returns-clause-set : goal.returns-clause-set
returns-clause-set g c =
    c.set_snapshots.ensures.set ∙ ap (λ l. record c.args.outcomes.now {
      snapshots = map
          (outcome_of l) c.args.plan.now.report.backend.snapshots;
    }) (c.deref-2.ensures.value
    ∙ c.part_jobs.ensures.shard_plans ∙ ap shard_plans_in c.self.view_is)
