use Rattle.std.proofs.Common.{arith, Bor, List}
use Rattle.meta_types.specs.CollectorLabels.{is_marked_root}
use Rattle.meta_types.specs.declared.rows.ContentRow.{ContentRow}
use Rattle.gc_graph.proofs.RootPlaces.{places_slice}
use Rattle.gc_graph.proofs.SliceLoops.{fits_next, long_next}
use Rattle.gc_graph.proofs.roots.push_marked_content.Goals as goal

-- the numbers of one slice more are small
pub push_some_marked_content-requires : goal.push_some_marked_content-requires
push_some_marked_content-requires c =
    let fits = fits_next (λ (rows : Bor (List ContentRow)). rows.now) c.args.slices.now
    c.loop-rows.rows-index c.rows-item.result c.loop-rows-test.true c.rows-item.is in
    omega (arith, fits, c.loop-rows.invariant.number, c.requires)

pub loop-rows-preserved : goal.loop-rows-preserved
loop-rows-preserved c =
    let inv = c.loop-rows.invariant in
    let more = long_next (λ (rows : Bor (List ContentRow)). rows.now) c.args.slices.now
    c.loop-rows.rows-index c.rows-item.result c.loop-rows-test.true c.rows-item.is in
    record {
      number = omega (arith, inv.number, more, c.in_ok-next.ensures.next);
      roots = places_slice (λ (row : ContentRow). is_marked_root row.labels)
          (λ (rows : Bor (List ContentRow)). rows.now) c.args.base c.loop-rows.number c.loop-rows.rows-index
          c.args.roots.now.items
          c.loop-rows.roots.items c.push_some_marked_content.new.roots.items c.args.slices.now
          c.rows-item.result c.loop-rows-test.true c.rows-item.is inv.number inv.roots
          c.in_ok-next.ensures.ok;
    }
