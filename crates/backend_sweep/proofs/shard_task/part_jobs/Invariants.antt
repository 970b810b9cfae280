use Rattle.std.proofs.Common.{◌≡◌, ◌≤◌, ◌++◌, map, length, vec_capacity}
use Rattle.backend_sweep.proofs.shard_task.part_jobs.Given as goal

abbrev pub invariant-loop-job : goal.invariant-loop-job
invariant-loop-job g l =
    (goal.iterator-loop-job g).can_next l.job-iterator ×
    (goal.iterator-loop-job g).is_finite l.job-iterator × record {
      parts : l.yielded ++ l.job-iterator.rest.items ≡ l.fn.jobs.items;
      shards : l.shards.items ≡ map (λ job. job.entry) l.yielded;
      shard_plans : l.shard_plans.items ≡ map (λ job. job.shard_plan) l.yielded;
      shards_room : length l.fn.jobs.items ≤ vec_capacity l.shards;
      shard_plans_room : length l.fn.jobs.items ≤ vec_capacity l.shard_plans;
    }
