use Rattle.std.proofs.Common.{◌≡◌, ◌++◌, map, take}
use Rattle.meta_types.specs.Paths.{content}
use Rattle.meta_types.specs.declared.resource.Mode.TheVariants.{Full}
use Rattle.gc_graph.specs.Built.{targets_in}
use Rattle.gc_graph.proofs.edges.push_full.Given as goal

-- the rows so far are there
abbrev pub invariant-loop-row : goal.invariant-loop-row
invariant-loop-row l = l.full ≡ l.fn.full
    ++ map (λ row. targets_in l.book (content Full row)) (take l.row-index l.rows)
