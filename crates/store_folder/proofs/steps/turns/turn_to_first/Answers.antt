use Rattle.std.proofs.Common.{◌∙◌, sym, inr}
use Rattle.store_folder.proofs.Turned.{told_first}
use Rattle.store_folder.proofs.steps.turns.turn_to_first.Goals as goal

-- it isn't selected
pub returns-in-Err-clause-failed : goal.returns-in-Err-clause-failed
returns-in-Err-clause-failed g c clean kept more holds has =
    c.in-Err.ensures.failed clean kept more holds has

pub returns-in-Err-clause-still : goal.returns-in-Err-clause-still
returns-in-Err-clause-still g c one two =
    (rw c.in-Err.ensures.second at two, c.in-Err.ensures.still one)

-- its witness was cut short
pub returns-in-Err-mark-clause-failed : goal.returns-in-Err-mark-clause-failed
returns-in-Err-mark-clause-failed g c clean kept more holds has told may =
    let now = sym c.in-Err-mark.ensures.still ∙ (rw c.into_disk-first.ensures.disk at clean) in
    let chosen = c.in-Ok.ensures.ok now kept more holds has in
    inr (c.in-Err-mark.ensures.failed more chosen told
    (told_first _ _ _ told c.in-Ok.ensures.which (rw c.into_disk-first.ensures.disk at may)))

pub returns-in-Err-mark-clause-still : goal.returns-in-Err-mark-clause-still
returns-in-Err-mark-clause-still g c one two = (
  rw c.in-Ok.ensures.spare at (rw c.in-Err-mark.ensures.same at two),
  c.in-Ok.ensures.clean
      (sym c.in-Err-mark.ensures.still ∙ (rw c.into_disk-first.ensures.disk at one)),
)

-- it stands there
pub returns-clause-ok : goal.returns-clause-ok
returns-clause-ok g c clean kept more holds has =
    c.in-Ok-mark.ensures.ok more
    (c.in-Ok.ensures.ok (sym c.in-Ok-mark.ensures.calm ∙ clean) kept more holds has)

pub returns-clause-which : goal.returns-clause-which
returns-clause-which g c = c.in-Ok-mark.ensures.which ∙ c.in-Ok.ensures.which

pub returns-clause-clean : goal.returns-clause-clean
returns-clause-clean g c one two = (
  rw c.in-Ok.ensures.spare at (rw c.in-Ok-mark.ensures.spare at two),
  c.in-Ok.ensures.clean (sym c.in-Ok-mark.ensures.calm ∙ one),
)
