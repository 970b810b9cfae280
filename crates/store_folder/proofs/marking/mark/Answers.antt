use Rattle.std.proofs.Common.{◌∙◌, sym, refl}
use Rattle.journal.specs.Head.{believed, Texts}
use Rattle.store_folder.proofs.Marked.{all_rests, still_finds, still_holds}
use Rattle.store_folder.proofs.marking.mark.Goals as goal

-- the witness was cut short
pub returns-in-Err-clause-failed : goal.returns-in-Err-clause-failed
returns-in-Err-clause-failed g c kept holds =
    let file = c.args.folder.file in
    let left = c.put_note.new.log in
    let stays : Texts (g.D.Disk.may_leave file.disk) (believed (g.D.Disk.seen file.disk)) =
    (g.D.Disk.seen file.disk, g.met.D.Disk.seen_may_stay file.disk, refl) in
    let reads = holds.log.has.reads in
    let only = all_rests _ _ _ _ _ _ _ _ _ _ kept stays holds c.witness_of-witness.result
    c.witness_of-witness.ensures.is c.witness_of-witness.ensures.fits in
    still_finds _ _ _ _ _ _ _ _ _ _ kept stays holds c.witness_of-witness.result
    c.witness_of-witness.ensures.is c.witness_of-witness.ensures.fits
    (g.D.Disk.may_leave left.disk)
    (λ a at. c.put_note.ensures.crash reads only (believed a) (a, at, refl))
    (left.selected (c.put_note.ensures.calm ∙ reads))

pub returns-clause-ok : goal.returns-clause-ok
returns-clause-ok g c kept holds =
    let file = c.args.folder.file in
    let left = c.put_note.new.log in
    let stays : Texts (g.D.Disk.may_leave file.disk) (believed (g.D.Disk.seen file.disk)) =
    (g.D.Disk.seen file.disk, g.met.D.Disk.seen_may_stay file.disk, refl) in
    let reads = holds.log.has.reads in
    let still = c.put_note.ensures.calm ∙ reads in
    let only = all_rests _ _ _ _ _ _ _ _ _ _ kept stays holds c.witness_of-witness.result
    c.witness_of-witness.ensures.is c.witness_of-witness.ensures.fits in
    still_holds _ _ _ _ _ _ _ _ _ _ kept stays holds c.witness_of-witness.result
    c.witness_of-witness.ensures.is c.witness_of-witness.ensures.fits _ _ _ _ still
    (c.put_note.ensures.crash reads only (believed (g.D.Disk.seen left.disk))
    (g.D.Disk.seen left.disk, g.met.D.Disk.seen_may_stay left.disk, refl))
    (c.in-Ok.ensures.durable reads) (λ a at. (a, at, refl)) (left.selected still)

-- all of it is on the disk
pub returns-clause-rests : goal.returns-clause-rests
returns-clause-rests g c clean = c.in-Ok.ensures.durable (sym c.put_note.ensures.calm ∙ clean)
