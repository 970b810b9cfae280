use Rattle.meta_types.specs.declared.fault.Fault.{Fault}
use Rattle.request_line.specs.declared.command.Command.TheVariants as A
use Rattle.scripts.specs.LineAnswers.{line_answer_of}
use Rattle.scripts.specs.Served.{IsRefused}
use Rattle.scripts.proofs.LineAnswers.{passed_on}
use Rattle.scripts.proofs.WithWords.{turned_refused, there_served}
use Rattle.scripts.proofs.showing.execute_there.Goals as goal

-- it is refused
pub returns-in_err-applied-clause-err : goal.returns-in_err-applied-clause-err
returns-in_err-applied-clause-err g c = λ answer takes.
    let old = c.args.locked.now.store.state in
    let new = c.execute_held.new.locked.store.state in
    passed_on c.from_residual.result _
    (λ (fault : Fault). IsRefused old (A.Show c.args.request.now answer c.args.there.now) fault new)
    c.from_residual.ensures.1
    (turned_refused old c.args.request.now answer c.args.there.now takes _ new
    c.in_err-applied.ensures.err)

-- it is done, or its lease holds the object
pub returns-clause-ok : goal.returns-clause-ok
returns-clause-ok g c = λ answer takes none.
    there_served c.args.locked.now.store.state c.args.request.now answer c.args.there.now takes
    c.in_ok-applied.applied c.execute_held.new.locked.store.state
    (line_answer_of c.there_answer.result) c.in_ok-applied.ensures.ok
    c.in_ok-applied.ensures.there none c.there_answer.ensures.said

-- a request that isn't done changed nothing
pub returns-clause-still : goal.returns-clause-still
returns-clause-still g c = λ none.
    c.in_ok-applied.ensures.still (c.there_answer.ensures.changes none)
