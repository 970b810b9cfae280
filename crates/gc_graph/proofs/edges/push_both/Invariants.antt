use Rattle.std.proofs.Common.{◌≡◌, ◌++◌, map, take}
use Rattle.meta_types.specs.Paths.{snapshot}
use Rattle.meta_types.specs.declared.resource.Mode.TheVariants.{Full, Flat}
use Rattle.gc_graph.specs.Built.{targets_in}
use Rattle.gc_graph.proofs.edges.push_both.Given as goal

-- the rows so far are there, in full and in flat
abbrev pub invariant-loop-row : goal.invariant-loop-row
invariant-loop-row l =
    (l.full ≡ l.fn.full
    ++ map (λ row. targets_in l.book (snapshot Full row)) (take l.row-index l.rows))
    × (l.flat ≡ l.fn.flat
    ++ map (λ row. targets_in l.book (snapshot Flat row)) (take l.row-index l.rows))
