use Rattle.std.proofs.Common.{◌∙◌, ap, sym, refl, []}
use Rattle.store_folder.proofs.Folders.{has_folder, folder_only}
use Rattle.store_folder.proofs.Lengthening.{groups_as}
use Rattle.store_folder.proofs.Puts.{clean_as}
use Rattle.store_folder.proofs.Runs.{as_log, as_folder}
use Rattle.store_folder.proofs.Standing.{both_of}
use Rattle.store_folder.proofs.steps.lengthening.grow_paged.Goals as goal

-- it goes on
pub returns-clause-holds : goal.returns-clause-holds
returns-clause-holds g c rests kept holds =
    let log = c.grow_journal-growth.new.journal.log in
    let was = as_log g.K.Page.page _ _ _ _ _ _ _ _ _ _ kept
    (g.met.E.Counting.stays c.args.folder.file) c.requires.page holds in
    let reads = clean_as g.E.Log.is_clean _ _ (sym c.new.ensures.same) was.has.reads in
    let groups = groups_as g.E.Log.text g.E.Log.may_leave _ _ _ _ _ _ c.new.ensures.same
    was.has.has in
    let clean = c.grow_journal-growth.ensures.calm ∙ reads in
    rw c.into_log-grown.ensures.same
    (as_folder g.K.Page.page _ _ _ _ _ _ _ _ _ _ [] kept [] (log.paged clean)
    (has_folder g.K.Page.page c.args.folder.card c.args.folder.is_second _ _ _
    (λ a here. log.paged clean _ (g.met.E.Counting.believes log.log a here))
    (λ a here is. (g.met.E.Counting.selects log.log clean a here).selector)
    (λ a here. (_, g.met.E.Counting.believes log.log a here, refl)) was.chosen
    c.args.folder.first was.begins _ _ _ _ [] was.has.groups kept [] clean
    (c.grow_journal-growth.ensures.goes (both_of _ _ rests).0 c.args.folder.first was.has.groups
    reads
    groups) was.has.is
    was.has.each refl was.belongs))

-- whatever a crash leaves
pub returns-clause-tells : goal.returns-clause-tells
returns-clause-tells g c kept holds =
    let log = c.grow_journal-growth.new.journal.log in
    let was = as_log g.K.Page.page _ _ _ _ _ _ _ _ _ _ kept
    (g.met.E.Counting.stays c.args.folder.file) c.requires.page holds in
    let reads = clean_as g.E.Log.is_clean _ _ (sym c.new.ensures.same) was.has.reads in
    let groups = groups_as g.E.Log.text g.E.Log.may_leave _ _ _ _ _ _ c.new.ensures.same
    was.has.has in
    let clean = c.grow_journal-growth.ensures.calm ∙ reads in
    rw c.into_log-grown.ensures.same
    (folder_only g.K.Page.page c.args.folder.card c.args.folder.is_second _ _ _
    (λ a here. log.paged clean _ (g.met.E.Counting.believes log.log a here))
    (λ a here is. (g.met.E.Counting.selects log.log clean a here).selector)
    (λ a here. (_, g.met.E.Counting.believes log.log a here, refl)) was.chosen
    c.args.folder.first was.begins was.has.groups kept was.belongs
    (c.grow_journal-growth.ensures.crash c.args.folder.first was.has.groups reads
    groups) was.has.is)

pub returns-clause-rests : goal.returns-clause-rests
returns-clause-rests g c rests clean =
    rw c.into_log-grown.ensures.same
    (c.is_at_rest-rests.ensures (both_of _ _ rests).1
    (rw c.into_log-grown.ensures.same at clean))

pub returns-clause-calm : goal.returns-clause-calm
returns-clause-calm g c =
    rw c.into_log-grown.ensures.same
    (c.grow_journal-growth.ensures.calm ∙ ap g.E.Log.is_clean c.new.ensures.same)
