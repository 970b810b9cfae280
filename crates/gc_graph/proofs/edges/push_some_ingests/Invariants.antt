use Rattle.std.proofs.Common.{◌≡◌, ◌++◌, map, take}
use Rattle.meta_types.specs.Paths.{ingest}
use Rattle.gc_graph.specs.Built.{targets_in}
use Rattle.gc_graph.proofs.edges.push_some_ingests.Given as goal

-- the rows so far are there
abbrev pub invariant-loop-row : goal.invariant-loop-row
invariant-loop-row l = l.edges ≡ l.fn.edges
    ++ map (λ row. targets_in l.book (ingest row)) (take l.row-index l.rows)
