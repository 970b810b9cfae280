use Rattle.std.proofs.Common.{rules}
use Rattle.request_core.specs.Follows.{AnswersExactly}
use Rattle.request_core.proofs.LeaseRows.{lease_shown}
use Rattle.request_core.proofs.state.State.lease_get.Goals as goal

-- the lease's row has the id that was asked for
pub returns-in-Some : goal.returns-in-Some
unfolding AnswersExactly
returns-in-Some g c = (search rules, search (rules, lease_shown), search rules)
