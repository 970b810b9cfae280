use Rattle.std.proofs.Common.{rules}
use Rattle.object_tables.proofs.SnapshottersSorted.{answer_sorted}
use Rattle.object_tables.proofs.tables.Tables.snapshotters.Goals as goal

-- the rows stand in order
pub returns-clause-order : goal.returns-clause-order
returns-clause-order c = answer_sorted c.args.ns.now c.args.self.now.snapshots c.snapshotters_of.result
    c.has_ns.ensures.order.snapshots (search rules)
