use Rattle.meta_types.specs.declared.resource.Resource.TheVariants.{Snapshot}
use Rattle.request_core.proofs.HoldsThere.{given_lease}
use Rattle.request_core.proofs.state.State.snapshot_there.Goals as goal

-- a lease is named
pub returns-in-Some : goal.returns-in-Some
returns-in-Some g c = λ texts.
    given_lease c.args.self.now.state c.args.ns.now c.args.lease.now _
    (Snapshot c.args.snapshotter.now c.args.name.now) c.look_snapshot.result c.in-Some.is
    (c.look_snapshot.ensures texts)
