use Rattle.std.proofs.Common.{sym, subst, refl, inl, inr, List, ℕ}
use Rattle.std.proofs.lemmas.Bool.{false≢true}
use Rattle.journal.specs.Head.{IsHeaded}
use Rattle.journal.specs.Misnamed.{IsMisnamed}
use Rattle.journal.proofs.ReadHeads.{same_error}
use Rattle.journal.proofs.HiddenNotes.{blank_named}
use Rattle.journal.proofs.journal_file.opening.has_head.Goals as goal

-- the head can't be told
pub returns-in_err-found-clause-unknown : goal.returns-in_err-found-clause-unknown
returns-in_err-found-clause-unknown g c is =
    c.in_err-found.ensures.unknown
    (same_error _ _ _ _ refl c.from_residual.ensures.1 is)

pub returns-in_err-found-clause-damaged : goal.returns-in_err-found-clause-damaged
returns-in_err-found-clause-damaged g c is clean =
    let damaged = c.in_err-found.ensures.damaged
    (same_error _ _ _ _ refl c.from_residual.ensures.1 is) clean in
    (damaged.0, inl damaged.1)

-- there is none
pub returns-in_default-clause-headed : goal.returns-in_default-clause-headed
returns-in_default-clause-headed g c clean is = absurd (false≢true is)

pub returns-in_default-clause-none : goal.returns-in_default-clause-none
returns-in_default-clause-none g c clean is =
    ((rw c.in_default.is at c.in_ok-found.ensures.none) clean).0

pub returns-in_default-clause-named : goal.returns-in_default-clause-named
returns-in_default-clause-named g c clean =
    blank_named (g.D.Disk.seen c.args.disk.now)
    ((rw c.in_default.is at c.in_ok-found.ensures.none) clean).0

-- its digit was changed
pub returns-then-is_misnamed-clause-damaged : goal.returns-then-is_misnamed-clause-damaged
returns-then-is_misnamed-clause-damaged g c is clean =
    let seen = c.find_head.ensures.seen in
    let before = c.is_misnamed.ensures.clean clean in
    let head = (rw c.in-Some.is at c.in_ok-found.ensures.some) before in (
      head.line,
      inr (subst IsMisnamed seen (c.in_ok-is_misnamed.ensures.misnamed clean
          (subst (λ (t : List ℕ). IsHeaded t c.in-Some.steps) (sym seen) head)
          c.if-is_misnamed.true)),
    )

pub returns-then-is_misnamed-clause-clean : goal.returns-then-is_misnamed-clause-clean
returns-then-is_misnamed-clause-clean g c clean =
    c.find_head.ensures.clean (c.is_misnamed.ensures.clean clean)

-- there is one
pub returns-clause-clean : goal.returns-clause-clean
returns-clause-clean g c clean =
    c.find_head.ensures.clean (c.is_misnamed.ensures.clean clean)

pub returns-clause-headed : goal.returns-clause-headed
returns-clause-headed g c clean is =
    let before = c.is_misnamed.ensures.clean clean in
    (c.in-Some.steps, (rw c.in-Some.is at c.in_ok-found.ensures.some) before)

pub returns-clause-named : goal.returns-clause-named
returns-clause-named g c clean misnamed =
    let seen = c.find_head.ensures.seen in
    let before = c.is_misnamed.ensures.clean clean in
    let head = (rw c.in-Some.is at c.in_ok-found.ensures.some) before in
    c.in_ok-is_misnamed.ensures.named clean
    (subst (λ (t : List ℕ). IsHeaded t c.in-Some.steps) (sym seen) head)
    c.if-is_misnamed.false (subst IsMisnamed (sym seen) misnamed)
