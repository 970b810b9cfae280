use Rattle.std.proofs.Common.{◌∙◌, ap, sym, refl, subst, List, ℕ, take, false, inr}
use Rattle.std.proofs.lemmas.Bool.{false≢true}
use Rattle.journal.specs.Head.{believed}
use Rattle.journal.specs.Selector.{other_counts}
use Rattle.store_folder.specs.Folders.{Belongs}
use Rattle.store_folder.proofs.Puts.{leaves_as, clean_as, seen_as, head_read}
use Rattle.store_folder.proofs.Telling.{tells_these}
use Rattle.store_folder.proofs.Turning.{finds_now, turned_now, belongs_turned, either_second, either_told, first_finds, checkpoint_moved, holds_selected}
use Rattle.store_folder.proofs.switching.select_first.Goals as goal

-- the selector wasn't put whole
pub returns-in-Err-clause-failed : goal.returns-in-Err-clause-failed
returns-in-Err-clause-failed g c still kept more holds has told may =
    let spare = c.args.taken.folder.spare in
    let was = c.select.ensures.crash may.0 may.2.0 in
    let there = leaves_as g.D.Disk.may_leave _ _ c.into_disk-disk.ensures was.0 was.1 in
    let here = leaves_as g.D.Disk.may_leave _ _ c.into_disk-second.ensures.disk may.1 may.2.1 in
    either_told may.0 may.1 kept more
    (either_second was.0 may.1 may.0 kept more
    (spare.file.selected has.reads was.0 there) was.2
    (finds_now _ _ _ _ _ _ _ _ _ _ _ _ _ _ kept more (λ a at. (a, at, refl))
    (λ b at. (b, at, refl)) holds has may.1 was.0 here there)
    (turned_now _ _ _ _ _ _ _ _ _ _ _ _ _ _ kept more (λ a at. (a, at, refl))
    (λ b at. (b, at, refl)) holds has may.1 was.0 here there)) told may.3

-- the file with the checkpoint can't be opened again
pub returns-in-Err-open-clause-failed : goal.returns-in-Err-open-clause-failed
returns-in-Err-open-clause-failed g c still kept more holds has told may =
    let spare = c.args.taken.folder.spare in
    let sel = c.in-Err-open.ensures.still still in
    let follows = head_read _ _ _ _ (λ f at. at) (g.met.D.Disk.seen_may_stay c.select.new.disk)
    (c.in-Err-open.ensures.refused still).crash in
    let was = follows may.0 may.2.0 in
    let seen = c.in-Ok.ensures.durable was.0 was.1 in
    let here = leaves_as g.D.Disk.may_leave _ _ c.into_disk-second.ensures.disk may.1 may.2.1 in
    let finds = turned_now _ _ _ _ _ _ _ _ _ _ _ _ _ _ kept more (λ a at. (a, at, refl))
    (λ b at. (b, at, refl)) holds has may.1 (g.D.Disk.seen spare.file.disk) here
    (g.met.D.Disk.seen_may_stay spare.file.disk) in
    inr (tells_these may.0 may.1 more (first_finds may.0 may.1 (g.D.Disk.seen spare.file.disk) more
    (was.2.selector ∙ ap other_counts seen ∙ (c.in-Ok.ensures.selector sel).selector)
    (was.2.text ∙ ap believed seen ∙ (c.in-Ok.ensures.left sel).text
    ∙ ap believed (seen_as g.D.Disk.seen _ _ c.into_disk-disk.ensures)) finds) told may.3)

pub returns-clause-ok : goal.returns-clause-ok
returns-clause-ok g c clean kept more holds has =
    let spare = c.args.taken.folder.spare in
    let sel = c.in-Ok-open.ensures.clean clean in
    let text = (c.in-Ok-open.ensures.opened clean).same.text ∙ (c.in-Ok.ensures.left sel).text
    ∙ ap believed (seen_as g.D.Disk.seen _ _ c.into_disk-disk.ensures) in
    let now = checkpoint_moved c.args.taken.folder.card c.args.taken.card _ _ _ _ _ _ more text
    c.in-Ok-open.ensures.rests clean has in
    rw c.first_sum-first.ensures
    (holds_selected c.args.taken.folder.card c.args.taken.card false _ _ _ _ _ more
    (λ b at. (b, at, refl)) (λ b at is. (c.in-Ok-open.log.selected clean b at).selector)
    (λ second. absurd (false≢true second)) now
    (λ f left. subst
    (λ (t : List ℕ). Belongs (take 4096 t) (believed f) c.args.taken.card has.groups)
    (sym text)
    (belongs_turned _ _ _ _ _ _ _ _ _ _ _ _ _ _ kept more (λ a at. (a, at, refl))
    (λ b at. (b, at, refl)) holds has f (g.D.Disk.seen spare.file.disk)
    (leaves_as g.D.Disk.may_leave _ _ c.into_disk-second.ensures.disk f left)
    (g.met.D.Disk.seen_may_stay spare.file.disk))))

-- no read had answered what isn't there
pub returns-in-Err-clause-still : goal.returns-in-Err-clause-still
returns-in-Err-clause-still g c clean =
    clean_as g.D.Disk.is_clean _ _ c.into_disk-disk.ensures (c.select.ensures.clean clean)

pub returns-in-Err-open-clause-still : goal.returns-in-Err-open-clause-still
returns-in-Err-open-clause-still g c clean =
    clean_as g.D.Disk.is_clean _ _ c.into_disk-disk.ensures
    (c.select.ensures.clean (c.in-Err-open.ensures.still clean))

pub returns-clause-clean : goal.returns-clause-clean
returns-clause-clean g c clean =
    clean_as g.D.Disk.is_clean _ _ c.into_disk-disk.ensures
    (c.select.ensures.clean (c.in-Ok-open.ensures.clean clean))
