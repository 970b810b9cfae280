use Rattle.gc_graph.proofs.RootPlaces.{resource_step}
use Rattle.gc_graph.proofs.roots.push_resources.Goals as goal

pub loop-resource-preserved : goal.loop-resource-preserved
loop-resource-preserved c =
    resource_step c.args.book.now c.args.ns.now c.args.mode c.args.roots.now.items c.loop-resource.roots.items c.push_resource.new.roots.items c.args.resources.now c.loop-resource.resource-index c.resource-item.result
    c.loop-resource-test.true c.resource-item.is c.loop-resource.invariant c.in_ok-push_resource.ensures.ok
