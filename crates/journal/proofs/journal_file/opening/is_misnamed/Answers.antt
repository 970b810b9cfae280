use Rattle.std.proofs.Common.{◌∙◌, sym, subst, List, ℕ}
use Rattle.journal.specs.Head.{believed, IsHeaded}
use Rattle.journal.specs.Misnamed.{HasNote}
use Rattle.journal.proofs.HiddenNotes.{has_its_name}
use Rattle.journal.proofs.journal_file.opening.is_misnamed.Goals as goal

-- the first line names format 2
pub returns-then-has_page-clause-named : goal.returns-then-has_page-clause-named
returns-then-has_page-clause-named g c clean head is =
    has_its_name (g.D.Disk.seen c.args.disk.now)
    (sym (c.in_ok-has_page.ensures.page clean) ∙ c.if-has_page.true)

pub returns-clause-misnamed : goal.returns-clause-misnamed
returns-clause-misnamed g c clean head is =
    let before = c.has_note.ensures.clean clean in
    let seen = c.reads_page.ensures.seen in (
      sym (c.in_ok-has_page.ensures.page before) ∙ c.if-has_page.false,
      subst (λ (t : List ℕ). HasNote (believed t)) seen
          (c.in_ok-has.ensures.note clean
          (subst (λ (t : List ℕ). IsHeaded t c.args.steps) (sym seen) head) is),
    )

pub returns-clause-named : goal.returns-clause-named
returns-clause-named g c clean head is misnamed =
    let seen = c.reads_page.ensures.seen in
    c.in_ok-has.ensures.none clean
    (subst (λ (t : List ℕ). IsHeaded t c.args.steps) (sym seen) head) is
    (subst (λ (t : List ℕ). HasNote (believed t)) (sym seen) misnamed.1)
