use Rattle.explaining.proofs.LastPaths.{rising}
use Rattle.explaining.proofs.explain_rows.ends.past_ends.Goals as goal

-- they are sorted
pub returns-clause-order : goal.returns-clause-order
returns-clause-order c = rising c.sort_unstable.new.self.items c.sort_unstable.ensures.sorted
