use Rattle.journal.proofs.Growing.{still_read, has_more_room, has_as_before, is_larger, on_ok, on_both, on_err}
use Rattle.journal.proofs.journal.Journal.grow.Goals as goal

pub returns-clause-ok : goal.returns-clause-ok
returns-clause-ok g c =
    on_both c.grow.result
    (λ ok durable first groups clean has.
    let more = ok clean in
    has_more_room _ _ _ _ first groups has _ _ (more.0, more.2) (durable clean))
    c.grow.ensures.ok c.grow.ensures.durable

pub returns-clause-larger : goal.returns-clause-larger
returns-clause-larger g c =
    on_ok c.grow.result (λ ok clean. is_larger _ _ (ok clean)) c.grow.ensures.ok

pub returns-clause-refused : goal.returns-clause-refused
returns-clause-refused g c =
    on_err c.grow.result (λ error same other first groups clean has.
    let was = same other clean in
    has_as_before _ _ _ _ first groups has _ _ was.0 was.1)
    c.grow.ensures.refused

pub returns-clause-crash : goal.returns-clause-crash
returns-clause-crash g c first groups clean has out left =
    still_read _ _ _ _ first groups has out (c.grow.ensures.crash clean has.durable out left)
