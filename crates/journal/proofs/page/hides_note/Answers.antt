use Rattle.std.proofs.Common.{◌∙◌, sym}
use Rattle.journal.proofs.HiddenNotes.{any_note, none_note}
use Rattle.journal.proofs.page.hides_note.Goals as goal

pub returns-clause-note : goal.returns-clause-note
returns-clause-note g c clean hides =
    any_note (g.L.Log.text c.args.log.now) c.in_ok-notes.notes.card c.in_ok-notes.notes.witness
    (c.in_ok-notes.ensures.card clean) (c.in_ok-notes.ensures.witness clean)
    (sym c.has_any.ensures ∙ hides)

pub returns-clause-none : goal.returns-clause-none
returns-clause-none g c clean hides has =
    none_note (g.L.Log.text c.args.log.now) c.in_ok-notes.notes.card c.in_ok-notes.notes.witness
    (c.in_ok-notes.ensures.card clean) (c.in_ok-notes.ensures.witness clean)
    (sym c.has_any.ensures ∙ hides) has
