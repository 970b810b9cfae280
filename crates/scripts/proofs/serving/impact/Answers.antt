use Rattle.std.proofs.Common.{◌∙◌, ap, sym}
use Rattle.meta_types.specs.Text.{is_short_name}
use Rattle.meta_types.specs.Time.{instant_of}
use Rattle.meta_types.specs.declared.fault.Fault.TheVariants.{InvalidArgument}
use Rattle.scripts.proofs.LineAnswers.{passed_on}
use Rattle.scripts.proofs.Asking.{allowed, impact_asks, no_moment, no_namespace, no_object, impact_ok, impact_err}
use Rattle.scripts.proofs.serving.impact.Goals as goal

-- a moment that can't be read
pub returns-in_default-clause-err : goal.returns-in_default-clause-err
returns-in_default-clause-err g c =
    let asks = impact_asks c.args.locked.now.store.state c.args.ns.now c.args.kind.now
    c.args.resource.now c.args.at.now in
    no_moment _ _ _ _ _ _ _ asks
    (ap instant_of (sym c.text.ensures) ∙ sym c.in_default.ensures.moment)

-- a namespace's text that isn't allowed
pub returns-in_err-ns-clause-err : goal.returns-in_err-ns-clause-err
returns-in_err-ns-clause-err g c =
    let asks = impact_asks c.args.locked.now.store.state c.args.ns.now c.args.kind.now
    c.args.resource.now c.args.at.now in
    passed_on c.from_residual.result _ _ c.from_residual.ensures.1
    (no_namespace _ _ _ _ _ _ _ asks _ (rw c.text-2.ensures at c.in_err-ns.ensures.fault))

-- a row's type or name that isn't
pub returns-in_err-row-clause-err : goal.returns-in_err-row-clause-err
returns-in_err-row-clause-err g c =
    let asks = impact_asks c.args.locked.now.store.state c.args.ns.now c.args.kind.now
    c.args.resource.now c.args.at.now in
    passed_on c.from_residual-in_err-row.result _ _ c.from_residual-in_err-row.ensures.1
    (no_object _ _ _ _ _ _ _ asks _
    (rw (c.text-3.ensures, c.text-4.ensures) at c.in_err-row.ensures.fault))

-- the store's answer is what would go
pub returns-clause-ok : goal.returns-clause-ok
returns-clause-ok g c =
    let same = c.in_ok-ns.ensures.ok ∙ c.text-2.ensures in
    impact_ok c.args.locked.now.store.state c.args.ns.now c.args.kind.now c.args.resource.now
    c.args.at.now _ c.in-Some.at.0
    (allowed (is_short_name c.args.ns.now) InvalidArgument
    (rw c.text-2.ensures at c.in_ok-ns.ensures.fault))
    (rw (c.text-3.ensures, c.text-4.ensures) at c.in_ok-row.ensures.ok)
    (ap instant_of (sym c.text.ensures) ∙ sym c.in-Some.ensures.moment)
    c.impact.result (rw same at c.impact.ensures.fault) (rw same at c.impact.ensures.ok)

-- or it refuses the question
pub returns-clause-err : goal.returns-clause-err
returns-clause-err g c =
    let same = c.in_ok-ns.ensures.ok ∙ c.text-2.ensures in
    impact_err c.args.locked.now.store.state c.args.ns.now c.args.kind.now c.args.resource.now
    c.args.at.now _ c.in-Some.at.0
    (allowed (is_short_name c.args.ns.now) InvalidArgument
    (rw c.text-2.ensures at c.in_ok-ns.ensures.fault))
    (rw (c.text-3.ensures, c.text-4.ensures) at c.in_ok-row.ensures.ok)
    (ap instant_of (sym c.text.ensures) ∙ sym c.in-Some.ensures.moment)
    c.impact.result (rw same at c.impact.ensures.fault)
