use Rattle.std.proofs.Common.{◌∙◌, ap, sym, refl}
use Rattle.std.specs.Box.{box_value}
use Rattle.meta_types.specs.Time.{instant_of}
use Rattle.meta_types.specs.Steps.{remove_collect}
use Rattle.request_line.specs.declared.command.Command.TheVariants as A
use Rattle.scripts.proofs.LineAnswers.{passed_on}
use Rattle.scripts.proofs.Served.{no_memory, boxed_ok, boxed_err, no_removal, is_removal, report_ok, report_err}
use Rattle.scripts.proofs.serving.remove.Goals as goal

-- a moment that can't be read
pub returns-in_default-clause-err : goal.returns-in_default-clause-err
returns-in_default-clause-err g c = no_removal c.args.locked.now.store.state c.args.removal.now c.args.at.now (ap instant_of (sym c.text.ensures) ∙ sym c.in_default.ensures.moment)

-- there is no room for the report
pub returns-in_err-room-clause-err : goal.returns-in_err-room-clause-err
returns-in_err-room-clause-err g c =
    passed_on c.from_residual.result _ _ c.from_residual.ensures.1
    (no_memory c.args.locked.now.store.state (A.Remove c.args.removal.now c.args.at.now) _
    c.in_err-room.ensures)

-- the report of the step
pub returns-clause-ok : goal.returns-clause-ok
returns-clause-ok g c =
    let old = c.args.locked.now.store.state in
    let is = is_removal old c.args.removal.now c.args.at.now c.in-Some.at.0 c.args.crew.now.workers.count (ap instant_of (sym c.text.ensures) ∙ sym c.in-Some.ensures.moment) c.args.crew.now.workers.allowed in
    boxed_ok box_value c.boxed.result c.remove_collect-report.result _ c.boxed.ensures.ok
    (report_ok old c.remove_collect-report.new.self.store.state (A.Remove c.args.removal.now c.args.at.now) (remove_collect c.args.removal.now c.in-Some.at.0 c.args.crew.now.workers.count) is
    c.args.locked.now.store.failures c.remove_collect-report.new.self.store.failures c.never_failed.ensures c.never_failed-2.ensures c.remove_collect-report.result c.remove_collect-report.ensures.step c.remove_collect-report.ensures.failures)

-- the refusal of the step, or OutOfMemory, or NoWorker
pub returns-clause-err : goal.returns-clause-err
returns-clause-err g c =
    let old = c.args.locked.now.store.state in
    let is = is_removal old c.args.removal.now c.args.at.now c.in-Some.at.0 c.args.crew.now.workers.count (ap instant_of (sym c.text.ensures) ∙ sym c.in-Some.ensures.moment) c.args.crew.now.workers.allowed in
    boxed_err box_value c.boxed.result c.remove_collect-report.result _ c.boxed.ensures.err
    (report_err old c.remove_collect-report.new.self.store.state (A.Remove c.args.removal.now c.args.at.now) (remove_collect c.args.removal.now c.in-Some.at.0 c.args.crew.now.workers.count) is
    refl c.remove_collect-report.result _ c.remove_collect-report.ensures.step c.remove_collect-report.ensures.fault)
