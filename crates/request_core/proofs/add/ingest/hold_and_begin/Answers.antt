use Rattle.request_core.proofs.Undone as undone
use Rattle.request_core.proofs.add.ingest.hold_and_begin.Goals as goal

-- what became new to the lease is released
pub returns-in-Err-clause-err : goal.returns-in-Err-clause-err
returns-in-Err-clause-err g c =
    (rw (c.release.ensures, c.in_ok-new.ensures.new, c.in_ok-new.ensures.ok) (undone.release c.args.ns.now c.args.lease.now c.args.resource.now c.args.leases.now), c.in-Err.ensures.err)
