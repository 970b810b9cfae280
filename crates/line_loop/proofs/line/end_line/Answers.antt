use Rattle.line_loop.proofs.Reading.{none_by_number}
use Rattle.line_loop.proofs.line.end_line.Goals as goal

pub returns-then-is_empty-clause-ok : goal.returns-then-is_empty-clause-ok
returns-then-is_empty-clause-ok g c =
    let none = none_by_number _ _ _ c.is_empty.ensures c.if-is_empty.true
    c.args.waiting.now.line.ok.0 in
    rw none (rw c.cut_long.ensures at c.in_ok-reply.ensures.ok)
