use Rattle.line_loop.proofs.Keeping.{kept_still, runs_line, runs_read, kept_read}
use Rattle.line_loop.proofs.block.answer_piece.Goals as goal

pub returns-in_err-reply-clause-kept : goal.returns-in_err-reply-clause-kept
returns-in_err-reply-clause-kept g c start left later whole runs =
    kept_still _ start _ _ _ _ _ _ _ _ runs c.end_line.ensures.crash

pub returns-in_err-give_reply-clause-kept : goal.returns-in_err-give_reply-clause-kept
returns-in_err-give_reply-clause-kept g c start left later whole runs =
    let told = c.in_ok-reply.ensures.ok in
    kept_read _ start _ _ _ _ _ _ left _ _ later runs whole
    (c.give_reply.ensures.kept start _
    (runs_line _ start _ _ _ _ _ _ _ _ _ _ later _ told.0 runs told.1 told.2
    c.end_line.ensures.waits))

pub returns-clause-kept : goal.returns-clause-kept
returns-clause-kept g c start left later whole runs =
    let told = c.in_ok-reply.ensures.ok in
    kept_read _ start _ _ _ _ _ _ left _ _ later runs whole
    (c.give_reply.ensures.kept start _
    (runs_line _ start _ _ _ _ _ _ _ _ _ _ later _ told.0 runs told.1 told.2
    c.end_line.ensures.waits))

pub returns-clause-ok : goal.returns-clause-ok
returns-clause-ok g c start left later whole runs =
    let told = c.in_ok-reply.ensures.ok in
    runs_read _ start _ _ _ _ _ _ _ _ left _ _ later _ runs whole c.in_ok-reply.ensures.empty
    (c.in_ok-give_reply.ensures.ok start _
    (runs_line _ start _ _ _ _ _ _ _ _ _ _ later _ told.0 runs told.1 told.2
    c.end_line.ensures.waits))
