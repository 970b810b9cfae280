use Rattle.std.proofs.Common.{◌∙◌, sym}
use Rattle.std.specs.Prelude.{is_some}
use Rattle.meta_types.specs.declared.fault.Fault.{Fault}
use Rattle.request_line.specs.declared.command.Command.TheVariants as A
use Rattle.scripts.specs.LineAnswers.{line_answer_of}
use Rattle.scripts.specs.Served.{IsRefused}
use Rattle.scripts.proofs.LineAnswers.{passed_on}
use Rattle.scripts.proofs.Served.{no_memory}
use Rattle.scripts.proofs.WithWords.{turned_refused, row_served, there_said}
use Rattle.scripts.proofs.showing.execute_row.Goals as goal

-- there is no memory for the row, or for its text
pub returns-in_err-replies-clause-err : goal.returns-in_err-replies-clause-err
returns-in_err-replies-clause-err g c = λ answer takes.
    let old = c.args.locked.now.store.state in
    passed_on c.from_residual.result _
    (λ (fault : Fault). IsRefused old (A.Show c.args.request.now answer c.args.there.now) fault old)
    c.from_residual.ensures.1
    (no_memory old (A.Show c.args.request.now answer c.args.there.now) _
    c.in_err-replies.ensures.fault)

-- it is refused
pub returns-in_err-applied-clause-err : goal.returns-in_err-applied-clause-err
returns-in_err-applied-clause-err g c = λ answer takes.
    let old = c.args.locked.now.store.state in
    let new = c.execute_held.new.locked.store.state in
    passed_on c.from_residual-in_err-applied.result _
    (λ (fault : Fault). IsRefused old (A.Show c.args.request.now answer c.args.there.now) fault new)
    c.from_residual-in_err-applied.ensures.1
    (turned_refused old c.args.request.now answer c.args.there.now takes _ new
    c.in_err-applied.ensures.err)

-- it is done, and the row is the one that was foreseen
pub returns-clause-ok : goal.returns-clause-ok
returns-clause-ok g c = λ answer takes some rows.
    let old = c.args.locked.now.store.state in
    let applied = c.in_ok-applied.applied in
    let foreseen = c.in_ok-replies.ensures.ok in
    row_served old c.args.request.now answer c.args.there.now takes applied
    c.execute_held.new.locked.store.state foreseen.0 (line_answer_of c.row_answer.result)
    c.in_ok-applied.ensures.ok c.in_ok-applied.ensures.there some rows foreseen.1
    (c.row_answer.ensures.said foreseen.0 (is_some c.args.there.now) foreseen.2
    (there_said old c.args.request.now c.args.there.now applied.there
    c.in_ok-applied.ensures.there))

-- a request that isn't done changed nothing
pub returns-clause-still : goal.returns-clause-still
returns-clause-still g c = λ none.
    c.in_ok-applied.ensures.still (sym c.row_answer.ensures.changes ∙ none)
