use Rattle.line_loop.proofs.Writers.{on_err}
use Rattle.kept_store.proofs.run.clocked.ClockedService.write.Goals as goal

-- a refusal wasn't written whole
pub returns-in_err-write_refusal-in-Refused-clause-err
    : goal.returns-in_err-write_refusal-in-Refused-clause-err
returns-in_err-write_refusal-in-Refused-clause-err g c =
    rw c.in-Refused.is
    (on_err c.from_residual.result c.in_err-write_refusal-in-Refused.ensures.err)

-- nor was a reply of the service
pub returns-in_err-write-in-Reply-clause-err : goal.returns-in_err-write-in-Reply-clause-err
returns-in_err-write-in-Reply-clause-err g c =
    rw c.in-Reply.is
    (on_err c.from_residual-in_err-write-in-Reply.result c.in_err-write-in-Reply.ensures.err)
