use Rattle.std.proofs.Common.{subst}
use Rattle.std.specs.Prelude.{IfOk}
use Rattle.meta_types.specs.Rows.{State}
use Rattle.meta_types.specs.Faults.{Refuses}
use Rattle.meta_types.specs.Explanations.{is_asked, explain_fault, IsExplanation}
use Rattle.store_front.proofs.PlanFaults.{passed_on}
use Rattle.store_front.proofs.calls.explain.Store+L+S+B+I.explain.Goals as goal

-- the copies are refused
pub returns-in_err-cut-clause-fault : goal.returns-in_err-cut-clause-fault
returns-in_err-cut-clause-fault g c =
    passed_on c.from_residual.result _ _ c.from_residual.ensures.1
    (c.deref.result.now.log, c.in_err-cut.ensures.err)

-- the copies are those of the store that the history leads to
pub returns-clause-explained : goal.returns-clause-explained
returns-clause-explained g c =
    let answer = c.explain-answer.result in (
      c.in_ok-cut.field-0.now,
      c.in_ok-cut.ensures.legal,
      (
        subst (λ (s : State). Refuses answer
            (explain_fault s.records c.args.ns.now c.args.object.now)) c.now.view_is
            c.explain-answer.ensures.fault,
        subst (λ (s : State). IfOk answer (λ told. IsExplanation s.records c.args.at.0
            (is_asked c.args.ns.now c.args.object.now) told.kept told.path.items)) c.now.view_is
            c.explain-answer.ensures.ok,
      ),
    )
