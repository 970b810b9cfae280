use Rattle.std.proofs.Common.{◌≡◌, ◌++◌, take}
use Rattle.std.specs.List.{flat_map}
use Rattle.meta_types.specs.Paths.{container}
use Rattle.gc_graph.specs.Built.{targets_in}
use Rattle.gc_graph.proofs.roots.push_containers.Given as goal

-- what the rows so far give is there
abbrev pub invariant-loop-row : goal.invariant-loop-row
invariant-loop-row l = l.roots.items ≡ l.fn.roots.items ++ flat_map (λ row. targets_in l.book (container row.now)) (take l.row-index l.rows)
