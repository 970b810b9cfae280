use Rattle.std.proofs.Common.{◌≡◌, ℕ, true, ap, subst}
use Rattle.std.specs.Prelude.{Err}
use Rattle.meta_types.specs.Limits.{is_worker_count}
use Rattle.meta_types.specs.Reports.{Plans}
use Rattle.meta_types.specs.Rows.{State}
use Rattle.store_front.proofs.PlanFaults.{cut_refuses, dry_refuses, passed_on, not_for_workers}
use Rattle.store_front.proofs.calls.plan_copy.Store+L+S+B+I.plan_copy.Goals as goal

-- the copies are refused
pub returns-in_err-cut-clause-fault : goal.returns-in_err-cut-clause-fault
returns-in_err-cut-clause-fault g c =
    passed_on c.from_residual.result _ _ c.from_residual.ensures.1 (cut_refuses c.args.workers c.args.session.now c.deref.result.now.log _ c.in_err-cut.ensures.err)

-- the plan is refused
pub returns-in-Err-clause-fault : goal.returns-in-Err-clause-fault
returns-in-Err-clause-fault g c =
    let allowed =
    subst (λ (n : ℕ). is_worker_count n ≡ true) c.in-Some.ensures.some c.in-Some.workers.allowed in
    dry_refuses c.args.workers c.args.session.now c.in_ok-cut.field-0.cut.base c.in_ok-cut.field-0.cut.log c.in_ok-cut.field-0.now c.in_ok-cut.ensures.legal c.in_ok-cut.ensures.own
    _ (ap (λ (s : State). s.records) c.now.view_is) allowed _ c.in-Err.ensures.fault

-- and not for the workers, which are allowed
pub returns-in-Err-clause-workers : goal.returns-in-Err-clause-workers
returns-in-Err-clause-workers g c =
    let allowed =
    subst (λ (n : ℕ). is_worker_count n ≡ true) c.in-Some.ensures.some c.in-Some.workers.allowed in
    not_for_workers (Err c.in-Err.fault) c.args.workers c.args.session.now allowed
    (returns-in-Err-clause-fault g c)

-- the plan of the copies is one of the store that the history leads to
pub returns-clause-planned : goal.returns-clause-planned
returns-clause-planned g c =
    (c.in_ok-cut.field-0.now, c.in_ok-cut.ensures.legal, subst (λ (s : State). Plans s c.args.at.0 c.in-Ok.report) c.now.view_is c.in-Ok.ensures.ok)
