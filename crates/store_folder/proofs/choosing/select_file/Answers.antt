use Rattle.std.proofs.Common.{◌∙◌, ap, sym, Err, inl, inr}
use Rattle.std.proofs.lemmas.Bool.{false≢true}
use Rattle.journal.specs.Selector.{other_counts}
use Rattle.store_folder.proofs.choosing.select_file.Goals as goal

-- the first file counts
pub returns-then-not-is_second-clause-choice : goal.returns-then-not-is_second-clause-choice
returns-then-not-is_second-clause-choice g c one two = (
  c.in-Ok-has_head.ensures.headed (c.selects.ensures.clean one) c.if-not-has_first.false,
  ap other_counts (sym c.has_head.ensures.seen) ∙ sym (c.in-Ok-selects.ensures.other one)
      ∙ c.if-not-is_second.true,
  λ second. absurd (false≢true second),
)

-- the second file counts
pub returns-clause-choice : goal.returns-clause-choice
returns-clause-choice g c one two = (
  c.in-Ok-has_head.ensures.headed (c.selects.ensures.clean one) c.if-not-has_first.false,
  ap other_counts (sym c.has_head.ensures.seen) ∙ sym (c.in-Ok-selects.ensures.other one)
      ∙ c.if-not-is_second.false,
  λ second. c.in-Ok.ensures.some (c.may_count-may_count.ensures.clean two)
      c.if-not-has_second.false,
)

-- a head that can be read isn't refused
pub returns-in-Err-has_head-clause-failed : goal.returns-in-Err-has_head-clause-failed
returns-in-Err-has_head-clause-failed g c clean readable = (
  λ is. elim (c.in-Err-has_head.ensures.damaged (ap Err is) clean).1 [
    | inl lost ↦ lost readable.steps readable.headed
    | inr misnamed ↦ readable.named misnamed
  ],
  λ is. false≢true (sym (c.in-Err-has_head.ensures.unknown (ap Err is) clean).1
      ∙ readable.headed.line),
)
