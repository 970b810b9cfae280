use Rattle.std.proofs.Common.{sym}
use Rattle.std.proofs.lemmas.List.{append-nil}
use Rattle.line_loop.proofs.Keeping.{serves_put, serves_settled, breaks_still, breaks_settling}
use Rattle.line_loop.proofs.replying.give_reply.Goals as goal

pub returns-in_default-clause-ok : goal.returns-in_default-clause-ok
returns-in_default-clause-ok g c start lines serves =
    serves_put _ start _ _ _ _ _ _ (rw c.in_default.is at serves)
    (sym (append-nil c.args.out.now.items))

pub returns-in_default-clause-kept : goal.returns-in_default-clause-kept
returns-in_default-clause-kept g c start lines serves =
    breaks_still _ start _ _ _ _ _ _ serves (g.met.L.LineLog.found _)

pub returns-then-len-lt-FULL-clause-ok : goal.returns-then-len-lt-FULL-clause-ok
returns-then-len-lt-FULL-clause-ok g c start lines serves =
    c.in_ok-put_or_write.ensures.ok start lines (rw c.in-Some.is at serves)

pub returns-then-len-lt-FULL-clause-kept : goal.returns-then-len-lt-FULL-clause-kept
returns-then-len-lt-FULL-clause-kept g c start lines serves =
    c.put_or_write.ensures.kept start lines (rw c.in-Some.is at serves)

pub returns-in_err-put_or_write-clause-kept : goal.returns-in_err-put_or_write-clause-kept
returns-in_err-put_or_write-clause-kept g c start lines serves =
    c.put_or_write.ensures.kept start lines (rw c.in-Some.is at serves)

pub returns-in_err-settle-clause-kept : goal.returns-in_err-settle-clause-kept
returns-in_err-settle-clause-kept g c start lines serves =
    breaks_settling _ start _ _ _ _ _ _ _
    (c.in_ok-put_or_write.ensures.ok start lines (rw c.in-Some.is at serves)) c.settle.ensures.crash

pub returns-clause-kept : goal.returns-clause-kept
returns-clause-kept g c start lines serves =
    breaks_settling _ start _ _ _ _ _ _ _
    (c.in_ok-put_or_write.ensures.ok start lines (rw c.in-Some.is at serves)) c.settle.ensures.crash

pub returns-clause-ok : goal.returns-clause-ok
returns-clause-ok g c start lines serves =
    serves_settled _ start _ _ _ _ _ _ _ _
    (c.in_ok-put_or_write.ensures.ok start lines (rw c.in-Some.is at serves))
    c.in_ok-settle.ensures.ok c.in_ok-settle.ensures.written c.in_ok-settle.ensures.empty
