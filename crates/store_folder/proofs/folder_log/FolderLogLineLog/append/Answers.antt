use Rattle.std.proofs.Common.{◌∙◌, refl, [], ◌∷◌, append_assoc}
use Rattle.line_loop.proofs.JournalLines.{one_more_waits}
use Rattle.store_folder.proofs.Folders.{has_folder}
use Rattle.store_folder.proofs.folder_log.FolderLogLineLog.append.Goals as goal

pub returns-in-Ok-clause-ok : goal.returns-in-Ok-clause-ok
returns-in-Ok-clause-ok g c kept waiting holds =
    let has = holds.has in
    let log = c.args.self.now.journal.log in
    let told = c.in-Ok.ensures.ok in
    let more = one_more_waits waiting c.args.line.now c.args.self.now.journal.pending.items
    c.push.new.self.pending.items has.each has.waits told.0
    (told.1 ∙ append_assoc c.args.self.now.journal.pending.items c.args.line.now (10 ∷ [])) in
    rw (c.push.ensures.same.0, c.push.ensures.same.1, c.push.ensures.same.2)
    (has_folder g.K.Page.page c.args.self.now.card c.args.self.now.is_second _ _ _
    (λ a here. log.paged has.reads _ (g.met.E.Counting.believes log.log a here))
    (λ a here is. (g.met.E.Counting.selects log.log has.reads a here).selector)
    (λ a here. (_, g.met.E.Counting.believes log.log a here, refl)) holds.chosen
    c.args.self.now.first holds.begins _ _ _ _ _ has.groups kept _ has.reads has.has has.is
    more.0 more.1 holds.belongs)

pub returns-in-Ok-clause-crash : goal.returns-in-Ok-clause-crash
returns-in-Ok-clause-crash g c kept waiting holds = rw c.push.ensures.same.0 holds.only

pub returns-in-Err-clause-crash : goal.returns-in-Err-clause-crash
returns-in-Err-clause-crash g c kept waiting holds = rw c.push.ensures.same.0 holds.only
