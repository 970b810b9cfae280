use Rattle.std.proofs.Common.{◌∙◌, ap, sym, Err, inl, inr}
use Rattle.std.proofs.lemmas.Bool.{false≢true}
use Rattle.journal.specs.Head.{has_page}
use Rattle.journal.proofs.HiddenNotes.{has_its_name}
use Rattle.store_folder.proofs.opening.checking.check_head.Goals as goal

pub returns-clause-paged : goal.returns-clause-paged
returns-clause-paged g c clean =
    let head = c.in-Ok.ensures.headed (c.reads_page.ensures.clean clean) c.if-not-is_headed.false in
    record {
      steps = head.0;
      headed = head.1;
      page = ap has_page (sym c.has_head.ensures.seen)
          ∙ sym (c.in-Ok-reads_page.ensures.page clean) ∙ c.if-not-is_paged.false;
    }

-- a head that can be read isn't refused
pub returns-in-Err-clause-refuses : goal.returns-in-Err-clause-refuses
returns-in-Err-clause-refuses g c clean paged =
    c.head_error.ensures.passing
    (λ is. elim (c.in-Err.ensures.damaged (ap Err is) clean).1 [
      | inl lost ↦ lost paged.steps paged.headed
      | inr misnamed ↦ has_its_name (g.D.Disk.seen c.args.disk.now) paged.page misnamed
    ])
    (λ is. false≢true (sym (c.in-Err.ensures.unknown (ap Err is) clean).1 ∙ paged.headed.line))

pub returns-then-not-is_paged-clause-refuses : goal.returns-then-not-is_paged-clause-refuses
returns-then-not-is_paged-clause-refuses g c clean paged =
    absurd (false≢true (sym c.if-not-is_paged.true ∙ c.in-Ok-reads_page.ensures.page clean
    ∙ ap has_page c.has_head.ensures.seen ∙ paged.page))
