use Rattle.std.proofs.Common.{None, sym}
use Rattle.scripts.proofs.LineAnswers.{line_step-empty, line_step-answer, true_at_empty}
use Rattle.scripts.proofs.Unchanged.{line_step-said}
use Rattle.scripts.proofs.Changing.{line_changes, answer_moves}
use Rattle.scripts.proofs.answering.execute_line.Goals as goal

-- an empty line
pub returns-then-is_empty-clause-ok : goal.returns-then-is_empty-clause-ok
returns-then-is_empty-clause-ok g c =
    let state = c.args.locked.now.store.state in
    let empty = sym c.if-is_empty.ensures in (
      None,
      line_step-empty state None c.args.line.now empty,
      true_at_empty state None
          c.args.line.now empty,
    )

-- what is said for the answer
pub returns-clause-ok : goal.returns-clause-ok
returns-clause-ok g c =
    let answer = c.line_outcome-answer.ensures.answer in
    line_step-said c.args.locked.now.store.state c.args.line.now _ _ _ (sym c.if-is_empty.ensures)
    answer c.render.ensures.said

-- whether it may have changed the store
pub returns-clause-changes : goal.returns-clause-changes
returns-clause-changes g c =
    line_changes c.args.locked.now.store.state c.args.line.now c.line_outcome-answer.result _
    c.may_change-changes.result (sym c.if-is_empty.ensures) c.line_outcome-answer.ensures.answer
    c.line_outcome-answer.ensures.still c.may_change-changes.ensures

-- a report is of a line that isn't refused
pub returns-clause-report : goal.returns-clause-report
returns-clause-report g c = λ report.
    answer_moves c.args.locked.now.store.state c.args.line.now _ _ (sym c.if-is_empty.ensures)
    c.line_outcome-answer.ensures.answer (c.render.ensures.report report)
