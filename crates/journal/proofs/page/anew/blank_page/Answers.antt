use Rattle.std.proofs.Common.{◌∙◌, sym}
use Rattle.journal.proofs.NotePuts.{blank_behind}
use Rattle.journal.proofs.page.anew.blank_page.Goals as goal

pub returns-clause-ok : goal.returns-clause-ok
returns-clause-ok g c clean =
    let before = sym c.put_note.ensures.calm ∙ clean in
    let first = sym c.blank.ensures.calm ∙ before in
    blank_behind c.args.witness c.in_ok-put_note.ensures.whole _ _ _
    (c.in_ok-blank.ensures.ok first) (c.in_ok-put_note.ensures.fits before)
    (c.in_ok-put_note.ensures.ok before)

pub returns-clause-durable : goal.returns-clause-durable
returns-clause-durable g c clean =
    c.in_ok-put_note.ensures.durable (sym c.put_note.ensures.calm ∙ clean)
