use Rattle.std.proofs.Common.{◌∙◌, arith}
use Rattle.journal.proofs.Behind.{same_note, reads_from}
use Rattle.journal.proofs.page.read_page.Goals as goal

pub returns-clause-card : goal.returns-clause-card
returns-clause-card g c clean =
    let text = g.L.Log.text c.args.log.now in
    let before = c.read.ensures.clean clean in
    reads_from 0 c.deref.result.now text c.in_ok-notes.notes.card
    (same_note text c.deref.result.now c.in_ok-size.size c.min-count.result 0
    (c.in_ok-size.ensures.size before) c.min-count.ensures
    (c.deref.ensures.value ∙ c.in_ok-read.ensures.bytes clean) (omega arith))
    c.in_ok-notes.ensures.card

pub returns-clause-witness : goal.returns-clause-witness
returns-clause-witness g c clean =
    let text = g.L.Log.text c.args.log.now in
    let before = c.read.ensures.clean clean in
    reads_from 512 c.deref.result.now text c.in_ok-notes.notes.witness
    (same_note text c.deref.result.now c.in_ok-size.size c.min-count.result 512
    (c.in_ok-size.ensures.size before) c.min-count.ensures
    (c.deref.ensures.value ∙ c.in_ok-read.ensures.bytes clean) (omega arith))
    c.in_ok-notes.ensures.witness
