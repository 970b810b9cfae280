use Rattle.request_line.proofs.PassedOn.{memory_fails}
use Rattle.request_line.proofs.snapshot_ops.snap_commit.Goals as goal

-- the last of its texts isn't copied
pub returns-in_err-answer-clause-fault : goal.returns-in_err-answer-clause-fault
returns-in_err-answer-clause-fault c =
    let passed = c.from_residual-in_err-answer in
    memory_fails passed.result _ passed.ensures.1 c.in_err-answer.ensures.fault
