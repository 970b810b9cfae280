use Rattle.gc_graph.proofs.Stores.{built}
use Rattle.gc_graph.proofs.build_graph.build.Goals as goal

pub returns-clause-ok : goal.returns-clause-ok
returns-clause-ok g c = built c.args.rows.now c.args.at.0 c.new-book.result (record { edges = c.in_ok-edges.edges; roots = c.in_ok-roots.roots })
    c.requires.apart c.new-book.ensures c.in_ok-edges.ensures.ok c.in_ok-roots.ensures.ok
