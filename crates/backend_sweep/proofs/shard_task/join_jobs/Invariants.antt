use Rattle.std.proofs.Common.{◌≡◌, ◌≤◌, ◌++◌, map, length, vec_capacity}
use Rattle.backend_sweep.proofs.shard_task.join_jobs.Given as goal

abbrev pub invariant-loop-entry : goal.invariant-loop-entry
invariant-loop-entry g l =
    (goal.iterator-loop-entry g).can_next l.entry-iterator ×
    (goal.iterator-loop-entry g).is_finite l.entry-iterator × record {
      parts : l.yielded ++ l.entry-iterator.rest.items ≡ l.fn.shards.items;
      shards : map (λ job. job.entry) l.jobs.items ≡ l.yielded;
      shard_plans : map (λ job. job.shard_plan) l.jobs.items ++ l.rest.rest.items ≡ l.fn.shard_plans.items;
      lengths : length l.fn.shard_plans.items ≡ length l.fn.shards.items;
      room : length l.fn.shards.items ≤ vec_capacity l.jobs;
    }
