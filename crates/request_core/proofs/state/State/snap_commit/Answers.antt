use Rattle.std.proofs.Common.{refl, rules}
use Rattle.request_core.specs.Follows.{AnswersExactly}
use Rattle.request_core.proofs.Refusals.{only_exactly}
use Rattle.request_core.proofs.state.State.snap_commit.Goals as goal

-- the check refuses as the request does
pub returns-in-Err : goal.returns-in-Err
unfolding AnswersExactly
returns-in-Err g c = only_exactly _ _ c.in-Err.fault _ _ _ _ (search rules) refl
