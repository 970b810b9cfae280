use Rattle.std.proofs.Common.{◌++◌, take}
use Rattle.std.specs.List.{flat_map}
use Rattle.std.specs.List.Sorted.{IsPermutation}
use Rattle.meta_types.specs.Paths.{lease}
use Rattle.gc_graph.specs.Built.{root_targets}
use Rattle.gc_graph.proofs.roots.push_leases.Given as goal

-- what the rows so far give is there, in any order
abbrev pub invariant-loop-row : goal.invariant-loop-row
invariant-loop-row l = IsPermutation (l.fn.roots.items
    ++ flat_map (λ row. root_targets l.profile l.at.0 l.book (lease row.now))
    (take l.row-index l.rows)) l.roots.items
