use Rattle.std.proofs.Common.{refl}
use Rattle.line_loop.proofs.Keeping.{runs_room, runs_settled, kept_still, kept_so, breaks_settling, pauses_so}
use Rattle.line_loop.proofs.block.feed.Goals as goal

pub returns-in_err-make_room-clause-kept : goal.returns-in_err-make_room-clause-kept
returns-in_err-make_room-clause-kept g c start left runs =
    kept_still _ start _ _ _ _ _ _ _ _ runs c.make_room.ensures.crash

pub returns-in_err-answer_lines-clause-kept : goal.returns-in_err-answer_lines-clause-kept
returns-in_err-answer_lines-clause-kept g c start left runs =
    let waits = c.make_room.ensures.waits in
    c.answer_lines.ensures.kept start left
    (runs_room _ start _ _ _ _ _ _ _ _ _ _ _ runs c.in_ok-make_room.ensures.ok
    refl waits.1 waits.0)

pub returns-in_err-settle-clause-kept : goal.returns-in_err-settle-clause-kept
returns-in_err-settle-clause-kept g c start left runs =
    let waits = c.make_room.ensures.waits in
    let next = c.in_ok-answer_lines.ensures.ok start left
    (runs_room _ start _ _ _ _ _ _ _ _ _ _ _ runs c.in_ok-make_room.ensures.ok
    refl waits.1 waits.0) in
    kept_so _ start _ _ _ _ _ _
    (breaks_settling _ start _ _ _ _ _ _ _ next.serves c.settle.ensures.crash) next.reads

pub returns-clause-kept : goal.returns-clause-kept
returns-clause-kept g c start left runs =
    let waits = c.make_room.ensures.waits in
    let next = c.in_ok-answer_lines.ensures.ok start left
    (runs_room _ start _ _ _ _ _ _ _ _ _ _ _ runs c.in_ok-make_room.ensures.ok
    refl waits.1 waits.0) in
    kept_so _ start _ _ _ _ _ _
    (breaks_settling _ start _ _ _ _ _ _ _ next.serves c.settle.ensures.crash) next.reads

pub returns-clause-ok : goal.returns-clause-ok
returns-clause-ok g c start left runs =
    let waits = c.make_room.ensures.waits in
    let next = c.in_ok-answer_lines.ensures.ok start left
    (runs_room _ start _ _ _ _ _ _ _ _ _ _ _ runs c.in_ok-make_room.ensures.ok
    refl waits.1 waits.0) in (
      pauses_so _ start _ _ _ _ _ _ _ _ next c.in_ok-settle.ensures.ok
          c.in_ok-settle.ensures.written,
      runs_settled _ start _ _ _ _ _ _ _ _ _ _ next c.in_ok-settle.ensures.ok
          c.in_ok-settle.ensures.written c.in_ok-settle.ensures.empty,
    )
