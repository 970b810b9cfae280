use Rattle.std.proofs.Common.{ap}
use Rattle.request_core.proofs.Undone as undone
use Rattle.request_core.proofs.Refusals.{err_of}
use Rattle.request_core.proofs.add.commit.grow_commit.Goals as goal

-- what became new to the lease is released
pub returns-clause-err : goal.returns-clause-err
returns-clause-err c = (
  ap (err_of (Unit {0})) (rw c.requires.fine at c.in-Err.ensures.fault),
  c.in-Err.ensures.err,
  rw (c.release.ensures, c.in_ok-new.ensures.new, c.in_ok-new.ensures.ok)
      (undone.release c.args.key.now.ns c.args.lease.now c.in_ok-resource.resource
      c.args.records.now.leases),
)
