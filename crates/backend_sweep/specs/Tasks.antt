-- What a sweep leaves to threads, and what they do. Ours, unless a source stands beside.
use Rattle.std.specs.Prelude.{◌≡◌, ℕ, ◌<◌, ◌==◌, Bool, not, ◌||◌, List, length, map, filter, All, bytes_eq, slice_index_or}
use Rattle.meta_types.specs.Text.{Text}
use Rattle.back_model.specs.Snaps.{Snaps, is_empty}
use Rattle.back_model.specs.Shown.{Shard, shown}
use Rattle.table_sweep.specs.BlobMarks.{AreBlobMarks}
use Rattle.table_sweep.specs.declared.planning.Plan.{Plan}
use Rattle.backend_sweep.specs.ObjectOutcomes.{names_with, was_removed, has_failed}
use Rattle.backend_sweep.specs.Singles.{AreHeldOnce, SweepsEach}
use Rattle.backend_sweep.specs.ShardPlans.{PlannedShard, shard_plan_for, IsReady, SweepsShardPlan}
use Rattle.backend_sweep.specs.declared.outcomes.Outcome.{Outcome}
use Rattle.backend_sweep.specs.declared.shard_task.ShardJob.{ShardJob}

-- the shards, each with its snapshotter
abbrev pub entries_in : {S : Type 0} → List (ShardJob S) → List (Text × S)
entries_in jobs = map (λ (job : ShardJob _). job.entry) jobs

-- what the shards hold
abbrev pub shards_in : {S : Type 0} → (S → Snaps) → (S → ℕ) → List (ShardJob S) → List Shard
shards_in contents fails jobs = map (shown contents fails) (entries_in jobs)

-- the plans of the shards
abbrev pub shard_plans_in : {S : Type 0} → List (ShardJob S) → List PlannedShard
shard_plans_in jobs = map (λ (job : ShardJob _). job.shard_plan) jobs

-- the shard stays behind a sweep of the names: it holds a snapshot, or a failure was counted, or
-- none of the names is its own
abbrev pub is_left : {S : Type 0} → (S → Snaps) → (S → ℕ) → List (Text × ℕ) → Text × S → Bool
is_left contents fails names entry =
    not (is_empty (contents entry.1))
    || (not (fails entry.1 == 0)
    || (length (filter (λ name. bytes_eq name.0 entry.0) names) == 0))

-- the shards that are left
abbrev pub left_in : {S : Type 0} → (S → Snaps) → (S → ℕ) → List (Text × ℕ) → List (ShardJob S)
    → List Shard
left_in contents fails names jobs =
    map (shown contents fails) (filter (is_left contents fails names) (entries_in jobs))

-- these are the shards, each with the plan of its snapshotter's names
pub record AreJobsOf {S : Type 0} (contents : S → Snaps) (fails : S → ℕ) (names : List (Text × ℕ)) (shards : List Shard) (jobs : List (ShardJob S)) : Type 0 where
  pub shards_are : shards_in contents fails jobs ≡ shards
  pub shard_plans_are : shard_plans_in jobs ≡ map (λ (entry : Text × S). shard_plan_for names entry.0) (entries_in jobs)

-- each shard may be swept by its plan
abbrev pub AreReady : {S : Type 0} → (S → Snaps) → (S → ℕ) → List (ShardJob S) → Type 0
AreReady contents fails jobs = All (λ (job : ShardJob _). IsReady (shown contents fails job.entry) job.shard_plan) jobs

-- the shard is swept by its plan
abbrev pub SweepsJob : {S : Type 0} → (S → Snaps) → (S → ℕ) → ShardJob S → ShardJob S → Type 0
SweepsJob contents fails old new = SweepsShardPlan (shown contents fails old.entry) old.shard_plan new.shard_plan (shown contents fails new.entry)

-- each shard is swept by its plan
abbrev pub SweepsJobs : {S : Type 0} → (S → Snaps) → (S → ℕ) → List (ShardJob S) → List (ShardJob S) → Type 0
SweepsJobs contents fails old new = (length new ≡ length old) × ((i : ℕ) (d : ShardJob _) → i < length old → SweepsJob contents fails (slice_index_or old i d) (slice_index_or new i d))

-- the plan's blobs are held, and its marks are of the blobs as they arrived
abbrev pub MaySweepBlobs : Plan → List Text → List Text → Type 0
MaySweepBlobs plan held arrived = AreHeldOnce bytes_eq plan.report.backend.blobs held × AreBlobMarks plan.report.backend.blobs arrived plan.blobs.items

-- the list is swept of a backend, as the outcomes say of each
abbrev pub SweepsList : {X B : Type 0} → (X → X → Bool) → (B → List X) → (B → ℕ) → List X
    → List Outcome → B → B → Type 0
SweepsList same contents fails list outcomes old new = SweepsEach same list (contents old)
    (contents new) (names_with was_removed list outcomes) (names_with has_failed list outcomes)
    (fails old) (fails new)
