use Rattle.std.proofs.Common.{Bor, List}
use Rattle.gc_graph.proofs.SliceLoops.{mapped_slice}
use Rattle.gc_graph.proofs.parallel.read_slices.Goals as goal

-- the rows of one slice more
pub loop-rows-preserved : goal.loop-rows-preserved
loop-rows-preserved g c =
    let reader = c.args.reading.now.reader.now in
    let slices = c.args.slices.now in (
      mapped_slice (λ (rows : Bor (List g.row.T.Denot)). rows.now) slices c.loop-rows.rows-index
          c.rows-item.result c.loop-rows-test.true c.rows-item.is (g.R.RowReader.full_of reader)
          c.args.full.now c.loop-rows.full c.read_slice.new.full c.loop-rows.invariant.0
          c.in_ok-read_slice.ensures.full,
      mapped_slice (λ (rows : Bor (List g.row.T.Denot)). rows.now) slices c.loop-rows.rows-index
          c.rows-item.result c.loop-rows-test.true c.rows-item.is (g.R.RowReader.flat_of reader)
          c.args.flat.now c.loop-rows.flat c.read_slice.new.flat c.loop-rows.invariant.1
          c.in_ok-read_slice.ensures.flat,
    )
