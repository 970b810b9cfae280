use Rattle.std.proofs.Common.{◌∙◌, ap, sym, refl, subst, List, ℕ, inl, inr}
use Rattle.journal.proofs.ReadHeads.{same_error}
use Rattle.journal.specs.Head.{IsHeaded}
use Rattle.journal.specs.Selector.{other_counts}
use Rattle.journal.proofs.Selectors.{still_same}
use Rattle.journal.proofs.journal_file.selecting.find.Goals as goal

pub returns-in_err-steps-clause-unknown : goal.returns-in_err-steps-clause-unknown
returns-in_err-steps-clause-unknown g c is =
    c.in_err-steps.ensures.unknown
    (same_error _ _ _ _ refl c.from_residual.ensures.1 is)

pub returns-in_err-steps-clause-damaged : goal.returns-in_err-steps-clause-damaged
returns-in_err-steps-clause-damaged g c is =
    c.in_err-steps.ensures.damaged
    (same_error _ _ _ _ refl c.from_residual.ensures.1 is)

-- the end of the head couldn't be read
pub returns-in_err-said-clause-same : goal.returns-in_err-said-clause-same
returns-in_err-said-clause-same g c clean =
    still_same _ _ _ (c.open_disk.ensures.same (c.read_selector.ensures.clean clean))
    c.read_selector.ensures.seen

pub returns-in_err-said-clause-crash : goal.returns-in_err-said-clause-crash
returns-in_err-said-clause-crash g c clean out left =
    c.open_disk.ensures.crash (c.read_selector.ensures.clean clean) out
    (c.read_selector.ensures.crash out left)

pub returns-in_err-said-clause-changed : goal.returns-in_err-said-clause-changed
returns-in_err-said-clause-changed g c clean =
    elim (c.open_disk.ensures.changed (c.read_selector.ensures.clean clean)) [
      | inl same ↦ inl (c.read_selector.ensures.seen ∙ same)
      | inr blank ↦ inr blank
    ]

-- both were read
pub returns-clause-headed : goal.returns-clause-headed
returns-clause-headed g c clean =
    subst (λ (t : List ℕ). IsHeaded t c.in_ok-steps.steps) (sym c.read_selector.ensures.seen)
    (c.in_ok-steps.ensures.headed (c.read_selector.ensures.clean clean))

pub returns-clause-other : goal.returns-clause-other
returns-clause-other g c clean =
    c.in_ok-said.ensures.other clean ∙ ap other_counts (sym c.read_selector.ensures.seen)

pub returns-clause-same : goal.returns-clause-same
returns-clause-same g c clean =
    still_same _ _ _ (c.open_disk.ensures.same (c.read_selector.ensures.clean clean))
    c.read_selector.ensures.seen

pub returns-clause-durable : goal.returns-clause-durable
returns-clause-durable g c out left =
    c.in_ok-steps.ensures.durable out (c.read_selector.ensures.crash out left)
    ∙ sym c.read_selector.ensures.seen

pub returns-clause-crash : goal.returns-clause-crash
returns-clause-crash g c clean out left =
    c.open_disk.ensures.crash (c.read_selector.ensures.clean clean) out
    (c.read_selector.ensures.crash out left)

pub returns-clause-changed : goal.returns-clause-changed
returns-clause-changed g c clean =
    elim (c.open_disk.ensures.changed (c.read_selector.ensures.clean clean)) [
      | inl same ↦ inl (c.read_selector.ensures.seen ∙ same)
      | inr blank ↦ inr blank
    ]
