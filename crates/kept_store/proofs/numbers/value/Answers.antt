use Rattle.std.proofs.Common.{◌∙◌}
use Rattle.kept_store.proofs.NumberTexts.{next_digit, no_digit, too_large, if_none}
use Rattle.kept_store.proofs.numbers.value.Goals as goal

pub returns-in_err-number-clause-none : goal.returns-in_err-number-clause-none
returns-in_err-number-clause-none c =
    if_none c.from_residual.result
    (too_large _ _ _ _ _ _ c.in-Some.ensures.some c.in_err-number.ensures.none
    c.reading.invariant)

pub reading-preserved : goal.reading-preserved
reading-preserved c =
    next_digit _ _ _ _ _ c.in-Some.ensures.some c.in_ok-number.ensures.some
    ∙ c.reading.invariant

pub returns-clause-some : goal.returns-clause-some
returns-clause-some c = no_digit _ _ _ c.in_default.ensures.none c.reading.invariant
