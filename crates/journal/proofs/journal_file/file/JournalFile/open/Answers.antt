use Rattle.std.proofs.Common.{◌∙◌, ap, refl, Err}
use Rattle.journal.proofs.Selectors.{opened_selector}
use Rattle.journal.proofs.Texts.{rests_from}
use Rattle.journal.proofs.journal_file.file.JournalFile.open.Goals as goal

pub returns-in-Err-clause-refused : goal.returns-in-Err-clause-refused
returns-in-Err-clause-refused g c clean = record {
  same = c.find.ensures.same clean;
  changed = c.find.ensures.changed clean;
  crash = c.find.ensures.crash clean;
}

pub returns-in-Err-clause-unknown : goal.returns-in-Err-clause-unknown
returns-in-Err-clause-unknown g c is = c.in-Err.ensures.unknown (ap Err is)

pub returns-in-Err-clause-damaged : goal.returns-in-Err-clause-damaged
returns-in-Err-clause-damaged g c is = c.in-Err.ensures.damaged (ap Err is)

pub returns-then-not-is_alike-clause-refused : goal.returns-then-not-is_alike-clause-refused
returns-then-not-is_alike-clause-refused g c clean = record {
  same = c.find.ensures.same clean;
  changed = c.find.ensures.changed clean;
  crash = c.find.ensures.crash clean;
}

pub returns-clause-rests : goal.returns-clause-rests
returns-clause-rests g c = rests_from _ _ c.in-Ok.ensures.durable

pub returns-clause-opened : goal.returns-clause-opened
returns-clause-opened g c clean = record {
  same = c.find.ensures.same clean;
  changed = c.find.ensures.changed clean;
  crash = c.find.ensures.crash clean;
}

-- this selector
pub invariant_of-result : goal.invariant_of-result
invariant_of-result g c = record {
  headed = λ now clean. c.in-Ok.ensures.headed clean;
  sized = λ now. (refl, c.in-Ok.ensures.bound);
  selected = λ clean.
      opened_selector _ _ c.in-Ok.found.steps c.in-Ok.found.is_standby
      g.C.Selector.IS_STANDBY (c.in-Ok.ensures.headed clean) (c.in-Ok.ensures.other clean)
      (c.is_alike.ensures c.if-not-is_alike.false ∙ c.IS_STANDBY.ensures)
      c.in-Ok.ensures.durable;
}
