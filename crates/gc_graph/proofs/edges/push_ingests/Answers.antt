use Rattle.std.proofs.Common.{Bor, List}
use Rattle.meta_types.specs.Paths.{ingest}
use Rattle.meta_types.specs.declared.rows.IngestRow.{IngestRow}
use Rattle.gc_graph.specs.Built.{targets_in}
use Rattle.gc_graph.proofs.SliceLoops.{mapped_slice}
use Rattle.gc_graph.proofs.edges.push_ingests.Goals as goal

-- the rows of one slice more
pub loop-rows-preserved : goal.loop-rows-preserved
loop-rows-preserved c =
    mapped_slice (λ (rows : Bor (List IngestRow)). rows.now) c.args.slices.now
    c.loop-rows.rows-index c.rows-item.result c.loop-rows-test.true c.rows-item.is
    (λ (row : IngestRow). targets_in c.args.book.now (ingest row)) c.args.edges.now
    c.loop-rows.edges c.push_some_ingests.new.edges c.loop-rows.invariant
    c.in_ok-push_some_ingests.ensures.ok
