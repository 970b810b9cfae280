use Rattle.std.proofs.Common.{subst}
use Rattle.std.specs.Prelude.{IfOk}
use Rattle.meta_types.specs.Rows.{State}
use Rattle.meta_types.specs.Faults.{Refuses}
use Rattle.meta_types.specs.Impacts.{removed, impact_fault, IsImpact}
use Rattle.store_front.proofs.PlanFaults.{passed_on}
use Rattle.store_front.proofs.calls.impact.Store+L+S+B+I.impact.Goals as goal

-- the copies are refused
pub returns-in_err-cut-clause-fault : goal.returns-in_err-cut-clause-fault
returns-in_err-cut-clause-fault g c =
    passed_on c.from_residual.result _ _ c.from_residual.ensures.1
    (c.deref.result.now.log, c.in_err-cut.ensures.err)

-- the copies are those of the store that the history leads to
pub returns-clause-foreseen : goal.returns-clause-foreseen
returns-clause-foreseen g c =
    let answer = c.impact_of_lists-answer.result in (
      c.in_ok-cut.field-0.now,
      c.in_ok-cut.ensures.legal,
      (
        subst (λ (s : State). Refuses answer (impact_fault s c.args.ns c.args.object))
            c.now.view_is c.impact_of_lists-answer.ensures.fault,
        subst (λ (s : State). IfOk answer (λ impact. IsImpact s
            (removed s c.args.ns c.args.object).after c.args.at.0 impact)) c.now.view_is
            c.impact_of_lists-answer.ensures.ok,
      ),
    )
