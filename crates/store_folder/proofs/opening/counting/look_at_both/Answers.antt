use Rattle.std.proofs.Common.{◌∙◌, sym, subst, List, ℕ}
use Rattle.journal.specs.Head.{IsHeaded}
use Rattle.store_folder.proofs.opening.counting.look_at_both.Goals as goal

pub returns-clause-headed : goal.returns-clause-headed
returns-clause-headed g c clean =
    subst (λ (file : List ℕ). IsHeaded file c.in_ok-steps.steps)
    (c.sync.ensures.seen ∙ c.check_head.ensures.seen) (c.in_ok-steps.ensures.headed clean)

pub returns-clause-notes : goal.returns-clause-notes
returns-clause-notes g c clean =
    (c.in_ok-other.ensures.card clean, c.in_ok-other.ensures.witness clean)

-- a read leaves no other file
pub returns-clause-durable : goal.returns-clause-durable
returns-clause-durable g c = (
  λ out left. c.in_ok-sync.ensures.durable out (c.read_steps.ensures.crash out left)
      ∙ sym c.read_steps.ensures.seen,
  c.in_ok-other.ensures.durable,
)

pub returns-clause-clean : goal.returns-clause-clean
returns-clause-clean g c = (
  λ one. c.check_head.ensures.clean (c.sync.ensures.clean (c.read_steps.ensures.clean one)),
  c.look.ensures.clean,
)
