use Rattle.std.proofs.Common.{◌≡◌, ◌++◌, take}
use Rattle.gc_graph.specs.Targets.{resource_targets}
use Rattle.gc_graph.specs.Built.{numbers_in}
use Rattle.gc_graph.proofs.roots.push_resources.Given as goal

-- the numbers of the resources so far are there
abbrev pub invariant-loop-resource : goal.invariant-loop-resource
invariant-loop-resource l = l.roots.items
    ≡ l.fn.roots.items
    ++ numbers_in l.book (resource_targets l.ns l.mode (take l.resource-index l.resources))
