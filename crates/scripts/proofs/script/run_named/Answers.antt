use Rattle.std.proofs.Common.{[]}
use Rattle.scripts.proofs.Runs.{run_outputs, run_wholes, run_begins, Exchanges-none}
use Rattle.scripts.proofs.Stops.{at_end, where_unread, reader_failed}
use Rattle.scripts.proofs.Writers.{holds_on_err}
use Rattle.scripts.proofs.script.run_named.Goals as goal

-- there was no room for the loop, and nothing was read
pub returns-in_err-buffers-clause-err : goal.returns-in_err-buffers-clause-err
returns-in_err-buffers-clause-err g c = holds_on_err c.from_residual.result (Exchanges-none _ _)

-- the store couldn't be opened, and nothing was read
pub returns-in_err-store-clause-err : goal.returns-in_err-store-clause-err
returns-in_err-store-clause-err g c =
    holds_on_err c.from_residual-in_err-store.result (Exchanges-none _ _)

-- all was read and answered
pub returns-in-Ok-End-clause-ok : goal.returns-in-Ok-End-clause-ok
returns-in-Ok-End-clause-ok g c =
    run_outputs _ c.in_ok-buffers.ensures c.in_ok-store.ensures.ok _ _ _ _ _
    (at_end c.run_lines-ran.result _ c.in-Ok-End.field-0 c.in-Ok-End.is
    (rw c.in-Ok-End.is at c.in-Ok-End.field-0-is) c.run_lines-ran.ensures.answers [] tt)

-- the reader failed
pub returns-clause-read_failed : goal.returns-clause-read_failed
returns-clause-read_failed g c = λ read.
    run_wholes _ c.in_ok-buffers.ensures c.in_ok-store.ensures.ok _ _ _ _ _
    (where_unread c.run_lines-ran.result _ c.in-Err.error c.in-Err.is
    (reader_failed _ _ c.run_fault.ensures read) c.run_lines-ran.ensures.answers [] tt)

-- whatever failed
pub returns-clause-err : goal.returns-clause-err
returns-clause-err g c =
    run_begins _ c.in_ok-buffers.ensures c.in_ok-store.ensures.ok _ _ _
    (c.run_lines-ran.ensures.kept [] tt)
