use Rattle.std.proofs.Common.{◌≡◌, ◌∙◌, ap, sym, refl, subst, List, ℕ, take, true, inl, inr}
use Rattle.journal.proofs.ReadHeads.{same_error}
use Rattle.journal.specs.Head.{is_first_line, is_blank, IsHeaded}
use Rattle.journal.proofs.Selectors.{unchanged}
use Rattle.journal.proofs.Openings.{opened_left}
use Rattle.journal.proofs.journal_file.opening.open_disk.Goals as goal

pub returns-in_err-make_head-clause-same : goal.returns-in_err-make_head-clause-same
returns-in_err-make_head-clause-same g c clean =
    opened_left _ _ _ _ _ _ c.len.result _ c.sync.ensures.seen c.find_head.ensures.seen
    c.in_ok-sync.ensures.durable c.find_head.ensures.crash
    ((rw c.in_default.is at c.in_ok-steps.ensures.none) (sym c.make_head.ensures.calm ∙ clean))
    (c.len.ensures ∙ c.find_head.new.block.ok.0) c.make_head.ensures.crash
    _ (g.met.D.Disk.seen_may_stay _)

pub returns-in_err-make_head-clause-crash : goal.returns-in_err-make_head-clause-crash
returns-in_err-make_head-clause-crash g c clean out left =
    inr (opened_left _ _ _ _ _ _ c.len.result _ c.sync.ensures.seen c.find_head.ensures.seen
    c.in_ok-sync.ensures.durable c.find_head.ensures.crash
    ((rw c.in_default.is at c.in_ok-steps.ensures.none) (sym c.make_head.ensures.calm ∙ clean))
    (c.len.ensures ∙ c.find_head.new.block.ok.0) c.make_head.ensures.crash
    out left)

pub returns-clause-same : goal.returns-clause-same
returns-clause-same g c clean =
    opened_left _ _ _ _ _ _ c.len.result _ c.sync.ensures.seen c.find_head.ensures.seen
    c.in_ok-sync.ensures.durable c.find_head.ensures.crash
    ((rw c.in_default.is at c.in_ok-steps.ensures.none) (sym c.make_head.ensures.calm ∙ clean))
    (c.len.ensures ∙ c.find_head.new.block.ok.0) c.make_head.ensures.crash
    _ (g.met.D.Disk.seen_may_stay _)

pub returns-clause-crash : goal.returns-clause-crash
returns-clause-crash g c clean out left =
    inr (opened_left _ _ _ _ _ _ c.len.result _ c.sync.ensures.seen c.find_head.ensures.seen
    c.in_ok-sync.ensures.durable c.find_head.ensures.crash
    ((rw c.in_default.is at c.in_ok-steps.ensures.none) (sym c.make_head.ensures.calm ∙ clean))
    (c.len.ensures ∙ c.find_head.new.block.ok.0) c.make_head.ensures.crash
    out left)

-- nothing was written
pub returns-in_err-sync-clause-same : goal.returns-in_err-sync-clause-same
returns-in_err-sync-clause-same g c clean = unchanged _ _ c.sync.ensures.seen

pub returns-in_err-steps-clause-same : goal.returns-in_err-steps-clause-same
returns-in_err-steps-clause-same g c clean =
    unchanged _ _ (c.find_head.ensures.seen ∙ c.sync.ensures.seen)

pub returns-in-Some-clause-same : goal.returns-in-Some-clause-same
returns-in-Some-clause-same g c clean =
    unchanged _ _ (c.find_head.ensures.seen ∙ c.sync.ensures.seen)

pub returns-in_err-sync-clause-crash : goal.returns-in_err-sync-clause-crash
returns-in_err-sync-clause-crash g c clean out left = inl (c.sync.ensures.crash out left)

pub returns-in_err-steps-clause-crash : goal.returns-in_err-steps-clause-crash
returns-in_err-steps-clause-crash g c clean out left =
    inl (c.sync.ensures.crash out (c.find_head.ensures.crash out left))

pub returns-in-Some-clause-crash : goal.returns-in-Some-clause-crash
returns-in-Some-clause-crash g c clean out left =
    inl (c.sync.ensures.crash out (c.find_head.ensures.crash out left))

-- the head that was found
pub returns-in_err-steps-clause-damaged : goal.returns-in_err-steps-clause-damaged
returns-in_err-steps-clause-damaged g c is clean =
    subst (λ (t : List ℕ). (is_first_line (take 17 t) ≡ true)
    × ((steps : ℕ) → IsHeaded t steps → ⊥))
    c.sync.ensures.seen (c.in_err-steps.ensures.damaged
    (same_error _ _ _ _ refl c.from_residual-in_err-steps.ensures.1 is) clean)

pub returns-in-Some-clause-headed : goal.returns-in-Some-clause-headed
returns-in-Some-clause-headed g c clean =
    subst (λ (t : List ℕ). IsHeaded t c.in-Some.steps) (sym c.find_head.ensures.seen)
    ((rw c.in-Some.is at c.in_ok-steps.ensures.some) clean)

pub returns-clause-headed : goal.returns-clause-headed
returns-clause-headed g c clean = c.in_ok-make_head.ensures.ok

pub returns-clause-changed : goal.returns-clause-changed
returns-clause-changed g c clean =
    inr (ap is_blank (sym c.sync.ensures.seen)
    ∙ ((rw c.in_default.is at c.in_ok-steps.ensures.none) (sym c.make_head.ensures.calm ∙ clean)).0)

pub returns-clause-clean : goal.returns-clause-clean
returns-clause-clean g c clean =
    sym c.sync.ensures.calm ∙ c.find_head.ensures.clean (sym c.make_head.ensures.calm ∙ clean)
