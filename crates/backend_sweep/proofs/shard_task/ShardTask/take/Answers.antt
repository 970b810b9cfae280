use Rattle.std.proofs.Common.{rules, ◌≡◌, ◌∙◌, sym, ap, subst, map}
use Rattle.back_model.specs.Shown.{shown}
use Rattle.backend_sweep.specs.ShardPlans.{shard_plan_for}
use Rattle.backend_sweep.specs.Parts.{StandBySnapshotter}
use Rattle.backend_sweep.proofs.shard_task.ShardTask.take.Goals as goal

pub shard_plans_and_room-requires-after_bounds : goal.shard_plans_and_room-requires-after_bounds
shard_plans_and_room-requires-after_bounds g c κs within =
    let named : c.deref-2.result.now ≡ c.args.plan.now.report.backend.snapshots = search rules in
    subst StandBySnapshotter (sym named) c.requires

-- the jobs are the shards beside their plans
pub returns-clause-jobs : goal.returns-clause-jobs
returns-clause-jobs g c =
    let named : c.deref-2.result.now ≡ c.args.plan.now.report.backend.snapshots = search rules in
    let entries = c.join_jobs.ensures.shards in
    record {
      shards_are = ap (map (shown g.S.SnapBackend.contents g.S.SnapBackend.fails)) entries ∙ c.take_shards-shards.ensures.taken;
      shard_plans_are = c.join_jobs.ensures.shard_plans ∙ c.in-Ok.ensures.shard_plans ∙ (λ i. map (λ x. shard_plan_for (named i) x.0) ((c.deref.ensures.value ∙ sym entries) i));
    }
