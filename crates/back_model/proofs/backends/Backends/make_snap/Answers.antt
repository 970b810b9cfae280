use Rattle.back_model.proofs.Named.{makes_named}
use Rattle.back_model.proofs.backends.Backends.make_snap.Goals as goal

-- a shard is held where the list of all has it
pub returns-clause-named : goal.returns-clause-named
returns-clause-named g c = makes_named c.make.result c.args.snapshotter.now c.args.number c.args.parent c.args.self.now.shards c.make.ensures.order c.make.ensures.fault
