use Rattle.std.proofs.Common.{◌≡◌, take, map}
use Rattle.backend_sweep.specs.ShardPlans.{shard_plan_for}
use Rattle.backend_sweep.proofs.shard_plans.shard_plans_of.Given as goal

abbrev pub invariant-loop-entry : goal.invariant-loop-entry
invariant-loop-entry g l = l.shard_plans.items ≡ map (λ entry. shard_plan_for l.names entry.0) (take l.entry-index l.shards)
