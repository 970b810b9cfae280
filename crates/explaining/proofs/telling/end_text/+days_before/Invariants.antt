use Rattle.explaining.proofs.telling.end_text.+days_before.Given as goal

abbrev pub decreases-days_before : goal.decreases-days_before
decreases-days_before l = l.month
