use Rattle.std.proofs.Common.{◌∙◌}
use Rattle.journal.proofs.NotePuts.{blank_behind}
use Rattle.store_folder.proofs.Blanked.{same_notes, only_grown, all_lost}
use Rattle.store_folder.proofs.blanking.blank_file.Goals as goal

-- there is no page
pub returns-in_err-make_page-clause-crash : goal.returns-in_err-make_page-clause-crash
returns-in_err-make_page-clause-crash g c clean only out left =
    only_grown c.args.witness _ out (c.make_page.ensures.crash clean only out left)

-- it isn't blank
pub returns-in_err-blank-clause-crash : goal.returns-in_err-blank-clause-crash
returns-in_err-blank-clause-crash g c clean only out left =
    let page = c.in_ok-make_page.ensures.ok clean only in
    let still = c.make_page.ensures.calm ∙ clean in
    (_, page.0, out, c.blank.ensures.crash still page.1 out left, same_notes 512 c.args.witness out)

-- the note was cut short
pub returns-in_err-put_note-clause-crash : goal.returns-in_err-put_note-clause-crash
returns-in_err-put_note-clause-crash g c clean only out left =
    let page = c.in_ok-make_page.ensures.ok clean only in
    let still = c.make_page.ensures.calm ∙ clean in
    let later = c.blank.ensures.calm ∙ still in (
      _,
      page.0,
      _,
      all_lost _ _ (c.in_ok-blank.ensures.ok still),
      c.put_note.ensures.crash later (c.in_ok-blank.ensures.durable still page.1) out left,
    )

pub returns-clause-crash : goal.returns-clause-crash
returns-clause-crash g c clean only out left =
    let page = c.in_ok-make_page.ensures.ok clean only in
    let still = c.make_page.ensures.calm ∙ clean in
    let later = c.blank.ensures.calm ∙ still in (
      _,
      page.0,
      _,
      all_lost _ _ (c.in_ok-blank.ensures.ok still),
      c.put_note.ensures.crash later (c.in_ok-blank.ensures.durable still page.1) out left,
    )

pub returns-clause-zeros : goal.returns-clause-zeros
returns-clause-zeros g c clean only =
    let still = c.make_page.ensures.calm ∙ clean in
    let later = c.blank.ensures.calm ∙ still in
    blank_behind c.args.witness c.in_ok-put_note.ensures.whole _ _ _
    (c.in_ok-blank.ensures.ok still)
    (c.in_ok-put_note.ensures.fits later) (c.in_ok-put_note.ensures.ok later)
