use Rattle.std.proofs.Common.{◌≡◌, ◌++◌, map, take}
use Rattle.std.specs.List.{flat_map}
use Rattle.meta_types.specs.Paths.{ingest}
use Rattle.gc_graph.specs.Built.{targets_in}
use Rattle.gc_graph.proofs.edges.push_ingests.Given as goal

-- the rows of the slices so far are there
abbrev pub invariant-loop-rows : goal.invariant-loop-rows
invariant-loop-rows l = l.edges ≡ l.fn.edges ++ map (λ row. targets_in l.book (ingest row))
    (flat_map (λ rows. rows.now) (take l.rows-index l.slices))
