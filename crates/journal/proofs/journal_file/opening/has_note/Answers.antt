use Rattle.std.proofs.Common.{◌∙◌, ◌<◌, sym, arith}
use Rattle.journal.specs.Head.{believed}
use Rattle.journal.proofs.Behind.{reads_from}
use Rattle.journal.proofs.HiddenNotes.{any_note, none_note, page_note, none_believed}
use Rattle.journal.proofs.journal_file.opening.has_note.Goals as goal

-- there is no page
pub returns-then-steps-eq0-clause-none : goal.returns-then-steps-eq0-clause-none
returns-then-steps-eq0-clause-none g c clean head has =
    none_believed (g.D.Disk.seen c.args.disk.now) c.args.steps head c.if-steps-eq0.true

pub returns-clause-note : goal.returns-clause-note
returns-clause-note g c clean head has =
    let file = g.D.Disk.seen c.args.disk.now in
    let block = c.deref.result.now in
    let are = c.deref.ensures.value ∙ c.in_ok-read_block.ensures.bytes clean in
    let some : 0 < c.args.steps = omega (arith, c.if-steps-eq0.false) in
    any_note (believed file) c.in_ok-notes.notes.card c.in_ok-notes.notes.witness
    (reads_from 0 block (believed file) c.in_ok-notes.notes.card
    (page_note file block c.args.steps 0 head some are (omega arith)) c.in_ok-notes.ensures.card)
    (reads_from 512 block (believed file) c.in_ok-notes.notes.witness
    (page_note file block c.args.steps 512 head some are (omega arith))
    c.in_ok-notes.ensures.witness)
    (sym c.has_any.ensures ∙ has)

pub returns-clause-none : goal.returns-clause-none
returns-clause-none g c clean head none has =
    let file = g.D.Disk.seen c.args.disk.now in
    let block = c.deref.result.now in
    let are = c.deref.ensures.value ∙ c.in_ok-read_block.ensures.bytes clean in
    let some : 0 < c.args.steps = omega (arith, c.if-steps-eq0.false) in
    none_note (believed file) c.in_ok-notes.notes.card c.in_ok-notes.notes.witness
    (reads_from 0 block (believed file) c.in_ok-notes.notes.card
    (page_note file block c.args.steps 0 head some are (omega arith)) c.in_ok-notes.ensures.card)
    (reads_from 512 block (believed file) c.in_ok-notes.notes.witness
    (page_note file block c.args.steps 512 head some are (omega arith))
    c.in_ok-notes.ensures.witness)
    (sym c.has_any.ensures ∙ none) has
