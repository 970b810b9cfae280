use Rattle.std.proofs.Common.{◌∙◌, [], ◌∷◌, append_assoc}
use Rattle.line_loop.proofs.JournalLines.{has_lines, one_more_waits}
use Rattle.line_loop.proofs.logs.journal_log.JournalLogLineLog.append.Goals as goal

pub returns-in-Ok-clause-ok : goal.returns-in-Ok-clause-ok
returns-in-Ok-clause-ok g c kept waiting has =
    let told = c.in-Ok.ensures.ok in
    let more = one_more_waits waiting c.args.line.now c.args.self.now.journal.pending.items
    c.push.new.self.pending.items has.each has.waits told.0
    (told.1 ∙ append_assoc c.args.self.now.journal.pending.items c.args.line.now (10 ∷ [])) in
    rw (c.push.ensures.same.0, c.push.ensures.same.1, c.push.ensures.same.2)
    (has_lines _ _ _ _ _ _ _ has.groups kept _ has.reads has.has has.is more.0 more.1)

pub returns-in-Ok-clause-crash : goal.returns-in-Ok-clause-crash
returns-in-Ok-clause-crash g c kept waiting has = rw c.push.ensures.same.0 has.only

pub returns-in-Err-clause-crash : goal.returns-in-Err-clause-crash
returns-in-Err-clause-crash g c kept waiting has = rw c.push.ensures.same.0 has.only
