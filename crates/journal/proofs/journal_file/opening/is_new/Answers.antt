use Rattle.std.proofs.Common.{◌∙◌, sym}
use Rattle.journal.proofs.Blanks.{front_other}
use Rattle.journal.proofs.journal_file.opening.is_new.Goals as goal

-- a front that isn't blank is that of no blank file
pub returns-then-not-is_blank-clause-ok : goal.returns-then-not-is_blank-clause-ok
returns-then-not-is_blank-clause-ok g c count clean size are =
    sym (front_other _ _ count (c.deref.ensures.value ∙ are)
    (sym c.is_blank.ensures ∙ c.if-not-is_blank.true))
