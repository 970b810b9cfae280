use Rattle.explaining.proofs.telling.end_text.+month_of.Given as goal

abbrev pub decreases-month_of : goal.decreases-month_of
decreases-month_of l = l.count
