use Rattle.request_core.proofs.Undone as undone
use Rattle.request_core.proofs.add.content.hold_and_create.Goals as goal

-- what became new to the lease is released
pub returns-clause-err : goal.returns-clause-err
returns-clause-err g c = (
  rw (c.release.ensures, c.in_ok-new.ensures.new, c.in_ok-new.ensures.ok)
      (undone.release c.args.ns.now c.args.lease.now _ c.args.leases.now),
  c.in-Err.ensures.err,
)
