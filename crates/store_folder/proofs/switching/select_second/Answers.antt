use Rattle.std.proofs.Common.{◌∙◌, ap, sym, refl, subst, List, ℕ, take, true}
use Rattle.std.proofs.lemmas.Bool.{true≢false}
use Rattle.journal.specs.Head.{believed}
use Rattle.journal.specs.Selector.{HasSelector}
use Rattle.store_folder.specs.Folders.{Belongs}
use Rattle.store_folder.proofs.Puts.{leaves_as, clean_as}
use Rattle.store_folder.proofs.Turning.{finds_now, turned_now, belongs_turned, either_first, either_told, holds_selected}
use Rattle.store_folder.proofs.switching.select_second.Goals as goal

-- the selector wasn't put whole
pub returns-in-Err-clause-failed : goal.returns-in-Err-clause-failed
returns-in-Err-clause-failed g c kept more holds has told may =
    let file = c.args.taken.folder.file in
    let was = c.select.ensures.crash may.0 may.2.0 in
    let here = leaves_as g.D.Disk.may_leave _ _ c.into_disk-disk.ensures.disk was.0 was.1 in
    let there = leaves_as g.D.Disk.may_leave _ _ c.into_disk.ensures may.1 may.2.1 in
    either_told may.0 may.1 kept more
    (either_first was.0 may.1 may.0 kept more (file.selected holds.log.has.reads was.0 here) was.2
    (finds_now _ _ _ _ _ _ _ _ _ _ _ _ _ _ kept more (λ a at. (a, at, refl))
    (λ b at. (b, at, refl)) holds has was.0 may.1 here there)
    (turned_now _ _ _ _ _ _ _ _ _ _ _ _ _ _ kept more (λ a at. (a, at, refl))
    (λ b at. (b, at, refl)) holds has was.0 may.1 here there)) told may.3

pub returns-clause-ok : goal.returns-clause-ok
returns-clause-ok g c clean kept more holds has =
    let spare = c.args.taken.folder.spare in
    let was = g.D.Disk.seen c.into_disk-disk.result in
    let here = leaves_as g.D.Disk.may_leave _ _ c.into_disk-disk.ensures.disk was
    (g.met.D.Disk.seen_may_stay c.into_disk-disk.result) in
    let text = (c.in-Ok.ensures.left clean).text in
    let belongs = belongs_turned _ _ _ _ _ _ _ _ _ _ _ _ _ _ kept more (λ a at. (a, at, refl))
    (λ b at. (b, at, refl)) holds has was (g.D.Disk.seen spare.file.disk) here
    (g.met.D.Disk.seen_may_stay spare.file.disk) in
    rw (c.first_sum-first.ensures, c.into_file.ensures)
    (holds_selected c.args.taken.folder.card c.args.taken.card true _ _ _ _ _ more
    (λ b at. (b, at, refl)) (λ b at is. absurd (true≢false is))
    (λ second f left. subst (λ (t : List ℕ). HasSelector true t)
    (sym (c.in-Ok.ensures.durable f left)) (c.in-Ok.ensures.selector clean)) has
    (λ f left. subst (λ (t : List ℕ). Belongs (take 4096
    (believed (g.D.Disk.seen spare.file.disk))) t c.args.taken.card has.groups)
    (sym (ap believed (c.in-Ok.ensures.durable f left) ∙ text)) belongs))

-- no read had answered what isn't there
pub returns-in-Err-clause-still : goal.returns-in-Err-clause-still
returns-in-Err-clause-still g c clean =
    clean_as g.D.Disk.is_clean _ _ c.into_disk-disk.ensures.disk (c.select.ensures.clean clean)

pub returns-clause-clean : goal.returns-clause-clean
returns-clause-clean g c clean =
    clean_as g.D.Disk.is_clean _ _ c.into_disk-disk.ensures.disk (c.select.ensures.clean clean)
