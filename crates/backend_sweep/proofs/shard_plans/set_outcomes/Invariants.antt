use Rattle.std.proofs.Common.{◌≡◌, ◌<◌, ◌≤◌, ℕ, length, take, map, slice_index_or}
use Rattle.meta_types.specs.Text.{Text}
use Rattle.backend_sweep.specs.ShardPlans.{StandFrom, outcome_of}
use Rattle.backend_sweep.proofs.shard_plans.set_outcomes.Given as goal

-- the outcomes so far are those of the names so far; all other names' plans stand from the place on
abbrev pub invariant-loop-i : goal.invariant-loop-i
invariant-loop-i g l = record {
  set : take l.i l.outcomes ≡ map (outcome_of l.shard_plans) (take l.i l.names);
  same : length l.outcomes ≡ length l.names;
  within : l.from ≤ length l.shard_plans;
  passed : (k : ℕ) (d : Text × ℕ) → l.i ≤ k → k < length l.names
      → StandFrom l.shard_plans l.from (slice_index_or l.names k d).0;
}
