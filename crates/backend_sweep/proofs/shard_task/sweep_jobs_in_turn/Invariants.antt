use Rattle.std.proofs.Common.{◌≡◌, ◌<◌, ◌≤◌, ℕ, length, slice_index_or}
use Rattle.backend_sweep.specs.Tasks.{SweepsJob}
use Rattle.backend_sweep.proofs.shard_task.sweep_jobs_in_turn.Given as goal

-- the shards so far are swept, the rest is as it was
abbrev pub invariant-loop-i : goal.invariant-loop-i
invariant-loop-i g l = record {
  same : length l.jobs ≡ length l.initial.jobs;
  done : (k : ℕ) (d : _) → k < l.i
      → SweepsJob g.S.SnapBackend.contents g.S.SnapBackend.fails (slice_index_or l.initial.jobs k d) (slice_index_or l.jobs k d);
  left : (k : ℕ) (d : _) → l.i ≤ k → slice_index_or l.jobs k d ≡ slice_index_or l.initial.jobs k d;
}
