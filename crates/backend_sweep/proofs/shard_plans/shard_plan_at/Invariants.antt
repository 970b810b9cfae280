use Rattle.std.proofs.Common.{◌≡◌, drop, bytes_eq}
use Rattle.std.specs.Prelude.{find}
use Rattle.backend_sweep.proofs.shard_plans.shard_plan_at.Given as goal

abbrev pub invariant-loop-shard_plan : goal.invariant-loop-shard_plan
invariant-loop-shard_plan g l = find (λ shard_plan. bytes_eq shard_plan.snapshotter l.snapshotter) l.shard_plans ≡ find (λ shard_plan. bytes_eq shard_plan.snapshotter l.snapshotter) (drop l.shard_plan-index l.shard_plans)
