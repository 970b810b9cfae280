use Rattle.std.proofs.Common.{rules, ◌<◌, length, arith}
use Rattle.backend_sweep.specs.ShardPlans.{outcome_of}
use Rattle.backend_sweep.proofs.ObjectOutcomes.{set_more}
use Rattle.backend_sweep.proofs.PassedShardPlans.{passed_on}
use Rattle.backend_sweep.proofs.shard_plans.set_outcomes.Goals as goal

-- the next outcome is that of the next name
pub loop-i-preserved : goal.loop-i-preserved
loop-i-preserved g c =
    let i = c.loop-i.invariant in
    let n = c.index-names-i.result in
    let here : c.loop-i.i < length c.args.names.now = search rules in
    record {
      set = set_more (outcome_of c.args.shard_plans.now) c.args.names.now c.loop-i.outcomes
          c.loop-i.i n c.outcome_at.result i.set c.index-names-i.is here i.same
          c.outcome_at.ensures;
      same = search rules;
      within = c.reach-reached.ensures.within;
      passed = λ k d above inside. passed_on c.args.shard_plans.now c.reach-reached.result.place c.args.names.now c.requires.names c.loop-i.i n c.index-names-i.is here c.reach-reached.ensures.passed k d (omega (arith, above)) inside;
    }
