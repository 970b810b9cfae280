use Rattle.std.proofs.Common.{rules, ◌≡◌, ◌∙◌, sym, subst, arith, ◌+◌, ◌<◌, ◌≤◌, ℕ, List, length, slice_index_or, slice_set, inl, inr}
use Rattle.std.proofs.lemmas.Bool.{cases_lt}
use Rattle.std.proofs.lemmas.List.{get_or-set_same, get_or-set_other}
use Rattle.back_model.specs.Snaps.{Snaps}
use Rattle.back_model.specs.Shown.{shown}
use Rattle.backend_sweep.specs.ShardPlans.{IsReady}
use Rattle.backend_sweep.specs.Tasks.{SweepsJob}
use Rattle.backend_sweep.specs.declared.shard_task.ShardJob.{ShardJob}
use Rattle.backend_sweep.proofs.ObjectOutcomes.{any_default}
use Rattle.backend_sweep.proofs.shard_task.sweep_jobs_in_turn.Goals as goal

-- the next shard is as it was
pub sweep_job-requires-after_bounds : goal.sweep_job-requires-after_bounds
sweep_job-requires-after_bounds g c κs within =
    let i = c.loop-i.i in
    let inside : i < length c.args.jobs.now = search rules in
    let same = c.loop-i.invariant.left i c.index-jobs-i.result (omega arith) in
    subst (λ (job : ShardJob _). IsReady (shown g.S.SnapBackend.contents g.S.SnapBackend.fails job.entry) job.shard_plan) (sym same) (c.requires i c.index-jobs-i.result inside)

module _ {S : Type 0} (contents : S → Snaps) (fails : S → ℕ) (olds now : List (ShardJob S)) (i : ℕ) (job d0 : ShardJob S) (inside : i < length now)
    (done : (k : ℕ) (d : ShardJob S) → k < i → SweepsJob contents fails (slice_index_or olds k d) (slice_index_or now k d))
    (left : (k : ℕ) (d : ShardJob S) → i ≤ k → slice_index_or now k d ≡ slice_index_or olds k d)
    (this : SweepsJob contents fails (slice_index_or now i d0) job) where
  -- one shard more
  pub done_more : (k : ℕ) (d : ShardJob S) → k < i + 1
      → SweepsJob contents fails (slice_index_or olds k d) (slice_index_or (slice_set now i job) k d)
  done_more k d lt = elim (cases_lt k i) [
    | inl before ↦ subst (SweepsJob contents fails (slice_index_or olds k d)) (sym (get_or-set_other now i k job d (λ is. absurd (omega (arith, is, before))))) (done k d before)
    | inr not ↦ (
        let is : i ≡ k = omega (arith, lt, not) in
        subst (λ (n : ℕ). SweepsJob contents fails (slice_index_or olds n d) (slice_index_or (slice_set now i job) n d)) is
        (subst (SweepsJob contents fails (slice_index_or olds i d)) (sym (get_or-set_same now i job d inside))
        (subst (λ (old : ShardJob S). SweepsJob contents fails old job) (any_default now i d0 d inside ∙ left i d (omega arith)) this)))
  ]

pub loop-i-preserved : goal.loop-i-preserved
loop-i-preserved g c =
    let i = c.loop-i.i in
    let v = c.loop-i.invariant in
    let inside : i < length c.args.jobs.now = search rules in
    let same = v.same in
    record {
      same = search rules;
      done = done_more g.S.SnapBackend.contents g.S.SnapBackend.fails c.args.jobs.now c.loop-i.jobs i c.sweep_job.new.job c.index-jobs-i.result (omega (arith, inside, same)) v.done v.left c.sweep_job.ensures;
      left = λ k d lt. get_or-set_other c.loop-i.jobs i k _ d (λ is. absurd (omega (arith, is, lt))) ∙ v.left k d (omega (arith, lt));
    }
