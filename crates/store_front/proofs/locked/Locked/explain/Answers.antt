use Rattle.std.proofs.Common.{◌∙◌, ap, subst}
use Rattle.std.specs.Prelude.{IfOk}
use Rattle.meta_types.specs.Rows.{Records}
use Rattle.meta_types.specs.Faults.{Refuses}
use Rattle.meta_types.specs.Explanations.{is_asked, explain_fault, IsExplanation}
use Rattle.store_front.specs.Front.{Front}
use Rattle.store_front.proofs.QuestionFaults.{same_records}
use Rattle.store_front.proofs.locked.Locked.explain.Goals as goal

-- the records that are lent are the store's
pub returns-clause-fault : goal.returns-clause-fault
returns-clause-fault g c =
    let kept = c.self.inside.state.state.records in
    let lent =
    same_records c.records.result.now kept c.records.ensures.tables c.records.ensures.leases
    c.records.ensures.next c.records.ensures.profile in
    subst (λ (r : Records). Refuses c.explain.result
    (explain_fault r c.args.ns.now c.args.object.now))
    (lent ∙ ap (λ (f : Front). f.store.state.records) c.self.view_is) c.explain.ensures.fault

pub returns-clause-ok : goal.returns-clause-ok
returns-clause-ok g c =
    let kept = c.self.inside.state.state.records in
    let lent =
    same_records c.records.result.now kept c.records.ensures.tables c.records.ensures.leases
    c.records.ensures.next c.records.ensures.profile in
    subst (λ (r : Records). IfOk c.explain.result (λ e. IsExplanation r c.args.at.0
    (is_asked c.args.ns.now c.args.object.now) e.kept e.path.items))
    (lent ∙ ap (λ (f : Front). f.store.state.records) c.self.view_is) c.explain.ensures.ok
