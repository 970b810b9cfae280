-- Shards beside what is to be swept of each, and what was. Ours, unless a source stands beside.
use Rattle.std.specs.Prelude.{ℕ, ◌≡◌, ◌<◌, Bool, true, false, not, ◌||◌, List, [], length, drop, slice_index_or, find, Option, None, Some, bytes_eq, if◌then◌else◌}
use Rattle.std.specs.Option.{option_map_or}
use Rattle.std.specs.Ordering.{is_le}
use Rattle.meta_types.specs.Text.{Text, text_cmp}
use Rattle.back_model.specs.Shown.{Shard}
use Rattle.backend_sweep.specs.Shards.{has, numbers_of}
use Rattle.backend_sweep.specs.Sweep.{Swept, Childfirst, IsRoomFor, Sweeps}
use Rattle.backend_sweep.specs.declared.outcomes.Outcome.{Outcome}
use Rattle.backend_sweep.specs.declared.outcomes.Outcome.TheVariants as F

-- what is to be swept of one snapshotter's shard, and what was
pub record PlannedShard : Type 0 where
  pub snapshotter : Text
  pub list : List ℕ
  pub swept : Swept

-- the numbers of the snapshotter, and empty lists with room for them
abbrev pub shard_plan_for : List (Text × ℕ) → Text → PlannedShard
shard_plan_for names snapshotter = record {
  snapshotter = snapshotter;
  list = numbers_of snapshotter names;
  swept = record { removed = []; failed = []; kept = []; parents = []; room = length (numbers_of snapshotter names) };
}

-- the plan's list may be swept of the shard, into the plan
abbrev pub IsReady : Shard → PlannedShard → Type 0
IsReady s shard_plan = Childfirst shard_plan.list s.snaps × IsRoomFor shard_plan.list shard_plan.swept

-- the shard is swept by the plan
pub record SweepsShardPlan (old : Shard) (shard_plan swept : PlannedShard) (new : Shard) : Type 0 where
  pub name : new.snapshotter ≡ old.snapshotter
  pub shard_plan_is : swept ≡ record shard_plan { swept = swept.swept }
  pub sweeps : Sweeps shard_plan.list old.snaps new.snaps old.failures new.failures swept.swept

-- the plan of each snapshotter that isn't less than this one stands from the place on
abbrev pub StandFrom : List PlannedShard → ℕ → Text → Type 0
StandFrom shard_plans place snapshotter = (other : Text) → is_le (text_cmp snapshotter other) ≡ true
    → find (λ (shard_plan : PlannedShard). bytes_eq shard_plan.snapshotter other) shard_plans
    ≡ find (λ (shard_plan : PlannedShard). bytes_eq shard_plan.snapshotter other) (drop place shard_plans)

-- the snapshotter's plan is the one at the place
abbrev pub IsPlanAt : List PlannedShard → Text → ℕ → Type 0
IsPlanAt shard_plans snapshotter place =
    (place < length shard_plans) × ((other : PlannedShard)
    → find (λ (shard_plan : PlannedShard). bytes_eq shard_plan.snapshotter snapshotter) shard_plans
    ≡ Some (slice_index_or shard_plans place other))

-- what became of the number, as its plan has it; one without a plan is kept
abbrev pub outcome_in : Option PlannedShard → ℕ → Outcome
outcome_in None n = F.Kept
outcome_in (Some shard_plan) n = if has shard_plan.swept.failed n then F.Failed else if has
    shard_plan.swept.kept n then F.Kept else F.Removed

-- what became of the name, by its plan
abbrev pub outcome_of : List PlannedShard → Text × ℕ → Outcome
outcome_of shard_plans name = outcome_in (find (λ (shard_plan : PlannedShard). bytes_eq
    shard_plan.snapshotter name.0) shard_plans) name.1

-- the test of the number by the name's plan; false where it has no plan
abbrev pub in_shard_plan : (PlannedShard → ℕ → Bool) → List PlannedShard → Text × ℕ → Bool
in_shard_plan tells shard_plans name = option_map_or (λ (shard_plan : PlannedShard). tells shard_plan name.1) (find (λ (shard_plan : PlannedShard). bytes_eq shard_plan.snapshotter name.0) shard_plans) false

-- its removal failed
abbrev pub is_failed : List PlannedShard → Text × ℕ → Bool
is_failed = in_shard_plan (λ shard_plan n. has shard_plan.swept.failed n)

-- it was neither failed nor kept
abbrev pub is_removed : List PlannedShard → Text × ℕ → Bool
is_removed = in_shard_plan (λ shard_plan n. not (has shard_plan.swept.failed n || has shard_plan.swept.kept n))
