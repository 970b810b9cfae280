use Rattle.scripts.specs.LineAnswers.{line_answer_of}
use Rattle.scripts.proofs.LineAnswers.{step-unread, served_call, refused_call}
use Rattle.scripts.proofs.answering.try_line.Goals as goal

-- what it asks for is done
pub returns-in-Ok-clause-ok : goal.returns-in-Ok-clause-ok
returns-in-Ok-clause-ok g c =
    served_call c.args.locked.now.store.state c.args.line.now c.requires.length line_answer_of
    c.execute-done.result _ c.execute-done.new.locked.store.state c.in-Ok.ensures.ok
    c.execute-done.ensures.ok

-- what it asks for is refused
pub returns-in-Ok-clause-err : goal.returns-in-Ok-clause-err
returns-in-Ok-clause-err g c =
    refused_call c.args.locked.now.store.state c.args.line.now c.requires.length
    c.execute-done.result _ c.execute-done.new.locked.store.state c.in-Ok.ensures.ok
    c.execute-done.ensures.err

-- the line can't be read
pub returns-else-eq-clause-err : goal.returns-else-eq-clause-err
returns-else-eq-clause-err g c =
    step-unread c.args.locked.now.store.state c.args.line.now c.requires.length _
    c.in-Err.ensures.fault
