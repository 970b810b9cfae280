use Rattle.std.proofs.Common.{◌∙◌, refl}
use Rattle.store_folder.proofs.Folders.{has_folder, folder_only}
use Rattle.store_folder.proofs.folder_log.FolderLogLineLog.make_room.Goals as goal

-- the first growth failed
pub returns-in_err-make_larger-clause-crash : goal.returns-in_err-make_larger-clause-crash
returns-in_err-make_larger-clause-crash g c kept waiting holds =
    let has = holds.has in
    let log = c.make_larger.new.journal.log in
    let clean = c.make_larger.ensures.calm ∙ has.reads in
    folder_only g.K.Page.page c.args.self.now.card c.args.self.now.is_second _ _ _
    (λ a here. log.paged clean _ (g.met.E.Counting.believes log.log a here))
    (λ a here is. (g.met.E.Counting.selects log.log clean a here).selector)
    (λ a here. (_, g.met.E.Counting.believes log.log a here, refl)) holds.chosen
    c.args.self.now.first holds.begins has.groups kept holds.belongs
    (c.make_larger.ensures.crash c.args.self.now.first has.groups has.reads has.has) has.is

-- the second one failed
pub returns-in_err-make_larger-2-clause-crash : goal.returns-in_err-make_larger-2-clause-crash
returns-in_err-make_larger-2-clause-crash g c kept waiting holds =
    let has = holds.has in
    let log = c.make_larger-2.new.journal.log in
    let calm = c.make_larger.ensures.calm ∙ has.reads in
    let clean = c.make_larger-2.ensures.calm ∙ calm in
    folder_only g.K.Page.page c.args.self.now.card c.args.self.now.is_second _ _ _
    (λ a here. log.paged clean _ (g.met.E.Counting.believes log.log a here))
    (λ a here is. (g.met.E.Counting.selects log.log clean a here).selector)
    (λ a here. (_, g.met.E.Counting.believes log.log a here, refl)) holds.chosen
    c.args.self.now.first holds.begins has.groups kept holds.belongs
    (c.make_larger-2.ensures.crash c.args.self.now.first has.groups calm
    (c.in_ok-make_larger.ensures.ok c.args.self.now.first has.groups has.reads has.has)) has.is

pub returns-clause-crash : goal.returns-clause-crash
returns-clause-crash g c kept waiting holds =
    let has = holds.has in
    let log = c.make_larger-2.new.journal.log in
    let calm = c.make_larger.ensures.calm ∙ has.reads in
    let clean = c.make_larger-2.ensures.calm ∙ calm in
    folder_only g.K.Page.page c.args.self.now.card c.args.self.now.is_second _ _ _
    (λ a here. log.paged clean _ (g.met.E.Counting.believes log.log a here))
    (λ a here is. (g.met.E.Counting.selects log.log clean a here).selector)
    (λ a here. (_, g.met.E.Counting.believes log.log a here, refl)) holds.chosen
    c.args.self.now.first holds.begins has.groups kept holds.belongs
    (c.make_larger-2.ensures.crash c.args.self.now.first has.groups calm
    (c.in_ok-make_larger.ensures.ok c.args.self.now.first has.groups has.reads has.has)) has.is

-- what it has is as before
pub returns-clause-ok : goal.returns-clause-ok
returns-clause-ok g c kept waiting holds =
    let has = holds.has in
    let log = c.make_larger-2.new.journal.log in
    let calm = c.make_larger.ensures.calm ∙ has.reads in
    let clean = c.make_larger-2.ensures.calm ∙ calm in
    has_folder g.K.Page.page c.args.self.now.card c.args.self.now.is_second _ _ _
    (λ a here. log.paged clean _ (g.met.E.Counting.believes log.log a here))
    (λ a here is. (g.met.E.Counting.selects log.log clean a here).selector)
    (λ a here. (_, g.met.E.Counting.believes log.log a here, refl)) holds.chosen
    c.args.self.now.first holds.begins _ _ _ _ _ has.groups kept waiting clean
    (c.in_ok-make_larger-2.ensures.ok c.args.self.now.first has.groups calm
    (c.in_ok-make_larger.ensures.ok c.args.self.now.first has.groups has.reads has.has)) has.is
    has.each
    (c.make_larger-2.ensures.waits ∙ c.make_larger.ensures.waits ∙ has.waits) holds.belongs
