use Rattle.explaining.proofs.telling.end_text.+push_digits_to.Given as goal

abbrev pub decreases-push_digits_to : goal.decreases-push_digits_to
decreases-push_digits_to l = l.count
