use Rattle.gc_graph.specs.Targets.{snapshot_node}
use Rattle.gc_graph.proofs.NodesAt.{node_there, none_there}
use Rattle.gc_graph.proofs.numbers.snapshot_at.Goals as goal

pub returns-in_ok-snapshot_node-in-Some-clause-ok : goal.returns-in_ok-snapshot_node-in-Some-clause-ok
returns-in_ok-snapshot_node-in-Some-clause-ok c =
    node_there (snapshot_node c.args.mode) c.args.rows.now c.args.place c.at.result c.in-Some.row
    c.in_ok-snapshot_node-in-Some.field-0 c.in-Some.is c.at.ensures c.in_ok-snapshot_node-in-Some.ensures.ok

pub returns-in-None-clause-ok : goal.returns-in-None-clause-ok
returns-in-None-clause-ok c =
    none_there (snapshot_node c.args.mode) c.args.rows.now c.args.place c.at.result c.in-None.is c.at.ensures
