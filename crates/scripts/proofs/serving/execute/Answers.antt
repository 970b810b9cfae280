use Rattle.std.proofs.Common.{sym, subst}
use Rattle.std.proofs.lemmas.Bool.{false≢true}
use Rattle.std.specs.Prelude.{IfOk, IfErr}
use Rattle.std.specs.Box.{box_value}
use Rattle.meta_types.specs.Steps.{reported}
use Rattle.meta_types.specs.Questions.{explains, foresees, lists, of_event, of_question}
use Rattle.request_line.specs.declared.command.Command.{Command}
use Rattle.reply_line.specs.Explained.{told_of}
use Rattle.scripts.specs.LineAnswers.{line_answer_of}
use Rattle.scripts.specs.Served.{IsServed, IsRefused}
use Rattle.scripts.proofs.Changing.{request_keeps, collect_keeps}
use Rattle.scripts.proofs.LineAnswers.{passed_on}
use Rattle.scripts.proofs.WithWords.{objects_served}
use Rattle.scripts.proofs.serving.execute.Goals as goal

-- the removal is refused
pub returns-in_err-report-in-Remove-clause-err : goal.returns-in_err-report-in-Remove-clause-err
returns-in_err-report-in-Remove-clause-err g c =
    let old = c.args.locked.now.store.state in
    let new = c.remove.new.locked.store.state in
    passed_on c.from_residual-in_err-report-in-Remove.result _
    (λ fault. IsRefused old c.args.command.now fault new)
    c.from_residual-in_err-report-in-Remove.ensures.1
    (subst (λ (command : Command). IsRefused old command c.in_err-report-in-Remove.field-0.0 new)
    (sym c.in-Remove.is) c.in_err-report-in-Remove.ensures.err)

-- the removal is done
pub returns-in_ok-report-in-Remove-clause-ok : goal.returns-in_ok-report-in-Remove-clause-ok
returns-in_ok-report-in-Remove-clause-ok g c =
    subst (λ (command : Command). IsServed c.args.locked.now.store.state command
    (of_event (reported (box_value c.in_ok-report-in-Remove.report))) c.remove.new.locked.store.state)
    (sym c.in-Remove.is)
    c.in_ok-report-in-Remove.ensures.ok

-- the request with its words is done
pub returns-in-Show-clause-ok : goal.returns-in-Show-clause-ok
returns-in-Show-clause-ok g c =
    subst (λ (command : Command). IfOk c.execute_shown.result (λ told.
    IsServed c.args.locked.now.store.state command (line_answer_of told)
    c.execute_shown.new.locked.store.state)) (sym c.in-Show.is) c.execute_shown.ensures.ok

-- or refused
pub returns-in-Show-clause-err : goal.returns-in-Show-clause-err
returns-in-Show-clause-err g c =
    subst (λ (command : Command). IfErr c.execute_shown.result (λ fault.
    IsRefused c.args.locked.now.store.state command fault
    c.execute_shown.new.locked.store.state)) (sym c.in-Show.is) c.execute_shown.ensures.err

-- all objects are named
pub returns-in_ok-objects-in-BackList-clause-ok : goal.returns-in_ok-objects-in-BackList-clause-ok
returns-in_ok-objects-in-BackList-clause-ok g c =
    let state = c.args.locked.now.store.state in
    subst (λ (command : Command). IsServed state command
    (of_question (lists (box_value c.in_ok-objects-in-BackList.objects))) state)
    (sym c.in-BackList.is)
    (objects_served state (box_value c.in_ok-objects-in-BackList.objects)
    c.in_ok-objects-in-BackList.ensures.ok)

-- the question is refused
pub returns-in_err-told-in-Explain-clause-err : goal.returns-in_err-told-in-Explain-clause-err
returns-in_err-told-in-Explain-clause-err g c =
    let state = c.args.locked.now.store.state in
    passed_on c.from_residual-in_err-told-in-Explain.result _ _
    c.from_residual-in_err-told-in-Explain.ensures.1
    (subst (λ (command : Command). IsRefused state command c.in_err-told-in-Explain.field-0.0 state)
    (sym c.in-Explain.is) c.in_err-told-in-Explain.ensures.err)

-- the row is explained
pub returns-in_ok-told-in-Explain-clause-ok : goal.returns-in_ok-told-in-Explain-clause-ok
returns-in_ok-told-in-Explain-clause-ok g c =
    let state = c.args.locked.now.store.state in
    subst (λ (command : Command). IsServed state command
    (of_question (explains (told_of c.in_ok-told-in-Explain.told))) state)
    (sym c.in-Explain.is) c.in_ok-told-in-Explain.ensures.ok

-- the question is refused
pub returns-in_err-found-in-Impact-clause-err : goal.returns-in_err-found-in-Impact-clause-err
returns-in_err-found-in-Impact-clause-err g c =
    let state = c.args.locked.now.store.state in
    passed_on c.from_residual-in_err-found-in-Impact.result _ _
    c.from_residual-in_err-found-in-Impact.ensures.1
    (subst (λ (command : Command). IsRefused state command c.in_err-found-in-Impact.field-0.0 state)
    (sym c.in-Impact.is) c.in_err-found-in-Impact.ensures.err)

-- what would go without the row
pub returns-in_ok-found-in-Impact-clause-ok : goal.returns-in_ok-found-in-Impact-clause-ok
returns-in_ok-found-in-Impact-clause-ok g c =
    let state = c.args.locked.now.store.state in
    subst (λ (command : Command). IsServed state command
    (of_question (foresees c.in_ok-found-in-Impact.found)) state)
    (sym c.in-Impact.is) c.in_ok-found-in-Impact.ensures.ok

-- a request that isn't done changed nothing
pub returns-in_ok-reply-in-Request-clause-still : goal.returns-in_ok-reply-in-Request-clause-still
returns-in_ok-reply-in-Request-clause-still g c = λ none.
    request_keeps _ c.in-Request.request _ _ c.in_ok-reply-in-Request.ensures.ok none

-- nor did a collection whose report names nothing
pub returns-in_ok-report-in-Collect-clause-still : goal.returns-in_ok-report-in-Collect-clause-still
returns-in_ok-report-in-Collect-clause-still g c = λ none.
    collect_keeps _ c.in-Collect.at c.in-Collect.dry _ _ c.in_ok-report-in-Collect.ensures.ok none

-- a removal always may have changed it
pub returns-in_ok-report-in-Remove-clause-still : goal.returns-in_ok-report-in-Remove-clause-still
returns-in_ok-report-in-Remove-clause-still g c = λ never. absurd (false≢true (sym never))
