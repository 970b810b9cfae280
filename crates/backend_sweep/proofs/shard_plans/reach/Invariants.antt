use Rattle.std.proofs.Common.{◌≤◌, length}
use Rattle.backend_sweep.specs.ShardPlans.{StandFrom}
use Rattle.backend_sweep.proofs.shard_plans.reach.Given as goal

-- the plans so far are passed
abbrev pub invariant-loop-place : goal.invariant-loop-place
invariant-loop-place g l = record {
  within : l.place ≤ length l.shard_plans;
  passed : StandFrom l.shard_plans l.place l.snapshotter;
}
