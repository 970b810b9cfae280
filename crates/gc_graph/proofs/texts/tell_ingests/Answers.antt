use Rattle.std.proofs.Common.{Bor, List}
use Rattle.std.specs.Prelude.{All}
use Rattle.meta_types.specs.Text.{IsName}
use Rattle.meta_types.specs.declared.rows.IngestRow.{IngestRow}
use Rattle.gc_graph.proofs.SliceLoops.{told_slice, all_slices}
use Rattle.gc_graph.proofs.texts.tell_ingests.Goals as goal

pub loop-rows-preserved : goal.loop-rows-preserved
loop-rows-preserved c =
    told_slice (λ (rows : Bor (List IngestRow)). rows.now) c.args.slices.now c.loop-rows.rows-index
    c.rows-item.result c.loop-rows-test.true c.rows-item.is
    (λ (row : IngestRow). IsName row.name) c.loop-rows.invariant c.tell_some_ingests.ensures

pub returns : goal.returns
returns c =
    all_slices (λ (rows : Bor (List IngestRow)). rows.now)
    (All (λ (row : IngestRow). IsName row.name)) c.args.slices.now c.loop-rows.rows-index c.loop-rows-test.false c.loop-rows.invariant
