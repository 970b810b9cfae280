use Rattle.std.proofs.Common.{◌∙◌, ap, refl, List, ℕ, ◌++◌, []}
use Rattle.journal.specs.Groups.{added}
use Rattle.line_loop.proofs.JournalLines.{lines_of-added}
use Rattle.store_folder.proofs.Telling.{belongs_more}
use Rattle.store_folder.proofs.Folders.{has_folder, folder_either}
use Rattle.store_folder.proofs.folder_log.FolderLogLineLog.commit.Goals as goal

pub returns-in-Ok-clause-ok : goal.returns-in-Ok-clause-ok
returns-in-Ok-clause-ok g c kept waiting holds =
    let has = holds.has in
    let log = c.commit.new.self.log in
    let clean = c.commit.ensures.calm ∙ has.reads in
    has_folder g.K.Page.page c.args.self.now.card c.args.self.now.is_second _ _ _
    (λ a here. log.paged clean _ (g.met.E.Counting.believes log.log a here))
    (λ a here is. (g.met.E.Counting.selects log.log clean a here).selector)
    (λ a here. (_, g.met.E.Counting.believes log.log a here, refl)) holds.chosen
    c.args.self.now.first holds.begins _ _ _ _ _ (added has.groups waiting) (kept ++ waiting) []
    clean
    (c.in-Ok.ensures.ok c.args.self.now.first has.groups waiting has.reads has.has has.each
    has.waits)
    (lines_of-added has.groups waiting ∙ ap (λ (ls : List (List ℕ)). ls ++ waiting) has.is)
    tt c.in-Ok.ensures.empty
    (λ b there. belongs_more _ _ _ has.groups waiting (holds.belongs b there))

pub returns-in-Ok-clause-crash : goal.returns-in-Ok-clause-crash
returns-in-Ok-clause-crash g c kept waiting holds =
    let has = holds.has in
    let log = c.commit.new.self.log in
    let clean = c.commit.ensures.calm ∙ has.reads in
    folder_either g.K.Page.page c.args.self.now.card c.args.self.now.is_second _ _ _
    (λ a here. log.paged clean _ (g.met.E.Counting.believes log.log a here))
    (λ a here is. (g.met.E.Counting.selects log.log clean a here).selector)
    (λ a here. (_, g.met.E.Counting.believes log.log a here, refl)) holds.chosen
    c.args.self.now.first holds.begins has.groups kept waiting holds.belongs
    (c.commit.ensures.crash c.args.self.now.first has.groups waiting has.reads has.has has.each
    has.waits) has.is

pub returns-in-Err-clause-crash : goal.returns-in-Err-clause-crash
returns-in-Err-clause-crash g c kept waiting holds =
    let has = holds.has in
    let log = c.commit.new.self.log in
    let clean = c.commit.ensures.calm ∙ has.reads in
    folder_either g.K.Page.page c.args.self.now.card c.args.self.now.is_second _ _ _
    (λ a here. log.paged clean _ (g.met.E.Counting.believes log.log a here))
    (λ a here is. (g.met.E.Counting.selects log.log clean a here).selector)
    (λ a here. (_, g.met.E.Counting.believes log.log a here, refl)) holds.chosen
    c.args.self.now.first holds.begins has.groups kept waiting holds.belongs
    (c.commit.ensures.crash c.args.self.now.first has.groups waiting has.reads has.has has.each
    has.waits) has.is
