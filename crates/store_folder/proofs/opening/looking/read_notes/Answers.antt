use Rattle.std.proofs.Common.{◌∙◌, arith}
use Rattle.journal.specs.Head.{believed}
use Rattle.store_folder.proofs.OpeningPages.{reads_whole}
use Rattle.store_folder.proofs.opening.looking.read_notes.Goals as goal

pub returns-clause-card : goal.returns-clause-card
returns-clause-card g c clean =
    let file = g.D.Disk.seen c.args.disk.now in
    reads_whole 0 (believed file) c.page_in.result.now c.in_ok-notes.notes.card (omega arith)
    (c.page_in.ensures file (c.deref.ensures.value ∙ c.in_ok-front.ensures.bytes clean))
    c.in_ok-notes.ensures.card

pub returns-clause-witness : goal.returns-clause-witness
returns-clause-witness g c clean =
    let file = g.D.Disk.seen c.args.disk.now in
    reads_whole 512 (believed file) c.page_in.result.now c.in_ok-notes.notes.witness (omega arith)
    (c.page_in.ensures file (c.deref.ensures.value ∙ c.in_ok-front.ensures.bytes clean))
    c.in_ok-notes.ensures.witness
