use Rattle.std.proofs.Common.{inl, inr}
use Rattle.store_folder.proofs.steps.renewing.renew_first.Goals as goal

-- no checkpoint is taken
pub returns-in-Err-clause-ok : goal.returns-in-Err-clause-ok
returns-in-Err-clause-ok g c one two kept holds makes =
    (kept, makes, c.in-Err.ensures.failed two kept holds)

pub returns-in-Err-clause-rests : goal.returns-in-Err-clause-rests
returns-in-Err-clause-rests g c rests = rw c.in-Err.ensures.same rests

pub returns-in-Err-clause-clean : goal.returns-in-Err-clause-clean
returns-in-Err-clause-clean g c one two =
    (rw c.in-Err.ensures.same at one, c.in-Err.ensures.still two)

-- its file doesn't count, or its witness was cut short
pub returns-in-Err-turn_to_first-clause-failed : goal.returns-in-Err-turn_to_first-clause-failed
returns-in-Err-turn_to_first-clause-failed g c one two kept holds makes told may =
    let was = c.in-Err-turn_to_first.ensures.still one two in
    let draft = c.in-Ok.ensures.taken was.1 kept holds in
    elim (c.in-Err-turn_to_first.ensures.failed one kept draft.0
    (c.in-Ok.ensures.ok was.1 kept holds) draft.2 told may) [
      | inl before ↦ (kept, makes, before)
      | inr now ↦ (draft.0, draft.1, now)
    ]

pub returns-in-Err-turn_to_first-clause-still : goal.returns-in-Err-turn_to_first-clause-still
returns-in-Err-turn_to_first-clause-still g c one two =
    let was = c.in-Err-turn_to_first.ensures.still one two in
    (rw c.in-Ok.ensures.file at was.0, c.in-Ok.ensures.clean was.1)

-- it counts
pub returns-clause-ok : goal.returns-clause-ok
returns-clause-ok g c one two kept holds makes =
    let was = c.in-Ok-turn_to_first.ensures.clean one two in
    let draft = c.in-Ok.ensures.taken was.1 kept holds in (
      draft.0,
      draft.1,
      c.in-Ok-turn_to_first.ensures.ok one kept draft.0 (c.in-Ok.ensures.ok was.1 kept holds)
          draft.2,
    )

pub returns-clause-clean : goal.returns-clause-clean
returns-clause-clean g c one two =
    let was = c.in-Ok-turn_to_first.ensures.clean one two in
    (rw c.in-Ok.ensures.file at was.0, c.in-Ok.ensures.clean was.1)
