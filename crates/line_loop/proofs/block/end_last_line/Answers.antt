use Rattle.std.proofs.Common.{◌≡◌, ◌∙◌, sym, refl, [], arith}
use Rattle.line_loop.proofs.Keeping.{runs_room, kept_still, kept_whole, all_served, last_served}
use Rattle.line_loop.proofs.Reading.{none_by_number}
use Rattle.line_loop.proofs.block.end_last_line.Goals as goal

pub returns-then-is_empty-clause-ok : goal.returns-then-is_empty-clause-ok
returns-then-is_empty-clause-ok g c start left runs =
    all_served _ start _ _ _ _ _ _ runs
    (none_by_number _ _ _ c.is_empty.ensures c.if-is_empty.true c.args.waiting.now.line.ok.0)

pub returns-then-is_empty-clause-kept : goal.returns-then-is_empty-clause-kept
returns-then-is_empty-clause-kept g c start left runs =
    kept_still _ start _ _ _ _ _ _ _ _ runs (g.met.L.LineLog.found _)

pub returns-in_err-make_room-clause-kept : goal.returns-in_err-make_room-clause-kept
returns-in_err-make_room-clause-kept g c start left runs =
    kept_still _ start _ _ _ _ _ _ _ _ runs c.make_room.ensures.crash

pub returns-in_err-reply-clause-kept : goal.returns-in_err-reply-clause-kept
returns-in_err-reply-clause-kept g c start left runs =
    let waits = c.make_room.ensures.waits in
    let here = runs_room _ start _ (g.L.LineLog.holds c.make_room.new.log) _ _
    _ c.make_room.new.self.replies.items _ _ _ _ c.make_room.new.self.line.items runs
    c.in_ok-make_room.ensures.ok refl waits.1 waits.0 in
    kept_still _ start _ _ _ _ _ _ _ _ here c.take_line.ensures.crash

pub returns-in_err-give_reply-clause-kept : goal.returns-in_err-give_reply-clause-kept
returns-in_err-give_reply-clause-kept g c start left runs =
    let waits = c.make_room.ensures.waits in
    let here = runs_room _ start _ (g.L.LineLog.holds c.make_room.new.log) _ _
    _ c.make_room.new.self.replies.items _ _ _ _ c.make_room.new.self.line.items runs
    c.in_ok-make_room.ensures.ok refl waits.1 waits.0 in
    let told = rw c.deref.ensures.value at c.in_ok-reply.ensures.ok in
    let some : c.make_room.new.self.line.items ≡ [] → ⊥ =
    λ none. let before = sym waits.0 ∙ none in
    absurd (grind (arith, before, c.is_empty.ensures, c.if-is_empty.false)) in
    kept_whole _ start _ _ left here.reads.read here.reads.consumes
    (c.give_reply.ensures.kept start _
    (last_served _ start _ _ _ _ _ _ left _ _ told.0 here some told.1 told.2))

pub returns-clause-kept : goal.returns-clause-kept
returns-clause-kept g c start left runs =
    let waits = c.make_room.ensures.waits in
    let here = runs_room _ start _ (g.L.LineLog.holds c.make_room.new.log) _ _
    _ c.make_room.new.self.replies.items _ _ _ _ c.make_room.new.self.line.items runs
    c.in_ok-make_room.ensures.ok refl waits.1 waits.0 in
    let told = rw c.deref.ensures.value at c.in_ok-reply.ensures.ok in
    let some : c.make_room.new.self.line.items ≡ [] → ⊥ =
    λ none. let before = sym waits.0 ∙ none in
    absurd (grind (arith, before, c.is_empty.ensures, c.if-is_empty.false)) in
    kept_whole _ start _ _ left here.reads.read here.reads.consumes
    (c.give_reply.ensures.kept start _
    (last_served _ start _ _ _ _ _ _ left _ _ told.0 here some told.1 told.2))

pub returns-clause-ok : goal.returns-clause-ok
returns-clause-ok g c start left runs =
    let waits = c.make_room.ensures.waits in
    let here = runs_room _ start _ (g.L.LineLog.holds c.make_room.new.log) _ _
    _ c.make_room.new.self.replies.items _ _ _ _ c.make_room.new.self.line.items runs
    c.in_ok-make_room.ensures.ok refl waits.1 waits.0 in
    let told = rw c.deref.ensures.value at c.in_ok-reply.ensures.ok in
    let some : c.make_room.new.self.line.items ≡ [] → ⊥ =
    λ none. let before = sym waits.0 ∙ none in
    absurd (grind (arith, before, c.is_empty.ensures, c.if-is_empty.false)) in (
      here.reads.read,
      here.reads.consumes,
      c.in_ok-give_reply.ensures.ok start _
          (last_served _ start _ _ _ _ _ _ left _ _ told.0 here some told.1 told.2),
    )
