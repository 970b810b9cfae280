use Rattle.std.proofs.Common.{◌∙◌, ap, sym, ℕ, List, ◌++◌}
use Rattle.line_loop.proofs.Keeping.{serves_put, serves_settled, breaks_still, breaks_settling}
use Rattle.line_loop.proofs.replying.put_or_write.Goals as goal

pub returns-in_err-put_text-clause-kept : goal.returns-in_err-put_text-clause-kept
returns-in_err-put_text-clause-kept g c start lines serves =
    breaks_still _ start _ _ _ _ _ _ serves (g.met.L.LineLog.found _)

pub returns-clause-kept : goal.returns-clause-kept
returns-clause-kept g c start lines serves =
    breaks_still _ start _ _ _ _ _ _ serves (g.met.L.LineLog.found _)

pub returns-clause-ok : goal.returns-clause-ok
returns-clause-ok g c start lines serves =
    serves_put _ start _ _ _ _ _ _ serves
    (c.in_ok-put_text.ensures.ok
    ∙ ap (λ (t : List ℕ). c.args.out.now.items ++ t) (sym c.in-Some.ensures))

pub returns-in_err-settle_and_write-clause-kept : goal.returns-in_err-settle_and_write-clause-kept
returns-in_err-settle_and_write-clause-kept g c start lines serves =
    breaks_settling _ start _ _ _ _ _ _ _ serves c.settle_and_write.ensures.crash

pub returns-in_default-clause-kept : goal.returns-in_default-clause-kept
returns-in_default-clause-kept g c start lines serves =
    breaks_settling _ start _ _ _ _ _ _ _ serves c.settle_and_write.ensures.crash

pub returns-in_default-clause-ok : goal.returns-in_default-clause-ok
returns-in_default-clause-ok g c start lines serves =
    rw c.settle_and_write.ensures.same
    (serves_settled _ start _ _ _ _ _ _ _ _ serves c.in_ok-settle_and_write.ensures.ok
    c.in_ok-settle_and_write.ensures.written c.in_ok-settle_and_write.ensures.empty)
