use Rattle.std.proofs.Common.{◌∙◌}
use Rattle.store_folder.proofs.Puts.{only_longer, stands_there}
use Rattle.store_folder.proofs.witness.put_witness.Goals as goal

-- there is no page
pub returns-in_err-make_page-clause-crash : goal.returns-in_err-make_page-clause-crash
returns-in_err-make_page-clause-crash g c clean only out left =
    only_longer c.args.note _ out (c.make_page.ensures.crash clean only out left)

-- the note was cut short
pub returns-in_err-put_note-clause-crash : goal.returns-in_err-put_note-clause-crash
returns-in_err-put_note-clause-crash g c clean only out left =
    let page = c.in_ok-make_page.ensures.ok clean only in
    let still = c.make_page.ensures.calm ∙ clean in
    (_, page.0, c.put_note.ensures.crash still page.1 out left)

pub returns-clause-crash : goal.returns-clause-crash
returns-clause-crash g c clean only out left =
    let page = c.in_ok-make_page.ensures.ok clean only in
    let still = c.make_page.ensures.calm ∙ clean in
    (_, page.0, c.put_note.ensures.crash still page.1 out left)

pub returns-clause-ok : goal.returns-clause-ok
returns-clause-ok g c clean only =
    let still = c.make_page.ensures.calm ∙ clean in
    stands_there 512 c.args.note _ _ c.in_ok-put_note.ensures.whole
    (c.in_ok-put_note.ensures.fits still) (c.in_ok-put_note.ensures.ok still)
