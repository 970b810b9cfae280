use Rattle.std.proofs.Common.{◌∙◌, ◌≤◌, ◌<◌, ℕ, subst, arith}
use Rattle.explaining.proofs.EndTexts.{begun, not_begun}
use Rattle.explaining.proofs.telling.end_text.+month_of.Goals as goal

-- the month has begun
pub returns-then-days_before-day-clause-month : goal.returns-then-days_before-day-clause-month
returns-then-days_before-day-clause-month n c =
    begun c.args.year c.args.day c.args.count (omega (arith, c.if-count-eq0.false))
    (subst (λ (days : ℕ). days ≤ c.args.day) c.days_before.ensures.days
    c.if-days_before-day.true)

-- it hasn't: it is one before
pub returns-clause-month : goal.returns-clause-month
returns-clause-month n c =
    c.month_of.ensures.month
    ∙ not_begun c.args.year c.args.day c.args.count (omega (arith, c.if-count-eq0.false))
    (subst (λ (days : ℕ). c.args.day < days) c.days_before.ensures.days
    c.if-days_before-day.false)
