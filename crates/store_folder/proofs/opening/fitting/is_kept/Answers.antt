use Rattle.std.proofs.Common.{◌∙◌, sym}
use Rattle.std.proofs.lemmas.Bool.{false≢true}
use Rattle.journal.specs.Notes.{first_sum}
use Rattle.store_folder.proofs.OpeningGroups.{found_before}
use Rattle.store_folder.proofs.opening.fitting.is_kept.Goals as goal

-- a note of another file asks for nothing
pub returns-then-note-card-clause-kept : goal.returns-then-note-card-clause-kept
returns-then-note-card-clause-kept g c clean is groups within text now =
    absurd (c.if-note-card.true now)

pub returns-clause-kept : goal.returns-clause-kept
returns-clause-kept g c clean is groups within text now =
    sym (found_before (first_sum c.args.card) _ groups c.args.till c.args.note within text)
    ∙ sym (c.in-Ok.ensures.found clean) ∙ is

pub returns-clause-lost : goal.returns-clause-lost
returns-clause-lost g c clean is groups within text kept =
    false≢true (sym is ∙ c.in-Ok.ensures.found clean
    ∙ found_before (first_sum c.args.card) _ groups c.args.till c.args.note within text
    ∙ kept c.if-note-card.false)
