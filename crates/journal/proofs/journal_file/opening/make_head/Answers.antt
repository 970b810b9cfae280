use Rattle.journal.proofs.journal_file.opening.make_head.Goals as goal

pub returns-in_err-make_long-clause-crash : goal.returns-in_err-make_long-clause-crash
returns-in_err-make_long-clause-crash g c is blank only out left =
    c.make_long.ensures.crash is blank only out left

pub returns-in_err-put_head-clause-crash : goal.returns-in_err-put_head-clause-crash
returns-in_err-put_head-clause-crash g c is blank only out left =
    let long = c.in_ok-make_long.ensures.ok is blank in
    c.put_head.ensures.crash long.0 long.1 (c.in_ok-make_long.ensures.durable only) out left

pub returns-clause-crash : goal.returns-clause-crash
returns-clause-crash g c is blank only out left =
    let long = c.in_ok-make_long.ensures.ok is blank in
    c.put_head.ensures.crash long.0 long.1 (c.in_ok-make_long.ensures.durable only) out left
