use Rattle.std.proofs.Common.{rules, ◌≡◌, ◌<◌, true, false, length}
use Rattle.std.specs.Ordering.{is_eq, is_gt}
use Rattle.meta_types.specs.Text.{text_cmp}
use Rattle.backend_sweep.proofs.PassedShardPlans.{passed_more, plan_there}
use Rattle.backend_sweep.proofs.shard_plans.reach.Goals as goal

-- the plan at the place is the snapshotter's own
pub returns-then-is_eq-clause-found : goal.returns-then-is_eq-clause-found
returns-then-is_eq-clause-found g c =
    let s = c.args.snapshotter.now in
    let shard_plan = c.index-shard_plans-place.result in
    let here : c.loop-place.place < length c.args.shard_plans.now = search rules in
    let same : is_eq (text_cmp shard_plan.snapshotter s) ≡ true = search rules in
    λ _. plan_there c.args.shard_plans.now c.loop-place.place s shard_plan here c.index-shard_plans-place.is c.loop-place.invariant.passed same

-- a lesser snapshotter's plan is passed
pub loop-place-preserved : goal.loop-place-preserved
loop-place-preserved g c =
    let s = c.args.snapshotter.now in
    let shard_plan = c.index-shard_plans-place.result in
    let here : c.loop-place.place < length c.args.shard_plans.now = search rules in
    let unlike : is_eq (text_cmp shard_plan.snapshotter s) ≡ false = search rules in
    let not_above : is_gt (text_cmp shard_plan.snapshotter s) ≡ false = search rules in
    record {
      within = search rules;
      passed = passed_more c.args.shard_plans.now c.loop-place.place s shard_plan here c.index-shard_plans-place.is c.loop-place.invariant.passed unlike not_above;
    }
