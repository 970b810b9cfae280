use Rattle.scripts.specs.LineAnswers.{line_answer_of}
use Rattle.scripts.proofs.LineAnswers.{step-unread, served_call, refused_call, passed_on}
use Rattle.scripts.proofs.answering.do_once.Goals as goal

-- the line can't be read
pub returns-in_err-command-clause-err : goal.returns-in_err-command-clause-err
returns-in_err-command-clause-err g c = passed_on c.from_residual.result _ _
    c.from_residual.ensures.1 (step-unread c.args.locked.now.store.state c.args.line.now
    c.requires.length _ c.in_err-command.ensures.fault)

-- what it asks for is done
pub returns-clause-ok : goal.returns-clause-ok
returns-clause-ok g c =
    served_call c.args.locked.now.store.state c.args.line.now c.requires.length line_answer_of
    c.execute-done.result _ c.execute-done.new.locked.store.state c.in_ok-command.ensures.ok
    c.execute-done.ensures.ok

-- what it asks for is refused
pub returns-clause-err : goal.returns-clause-err
returns-clause-err g c = refused_call c.args.locked.now.store.state c.args.line.now
    c.requires.length c.execute-done.result _ c.execute-done.new.locked.store.state
    c.in_ok-command.ensures.ok c.execute-done.ensures.err
