use Rattle.std.proofs.Common.{arith}
use Rattle.meta_types.specs.CollectorLabels.{is_marked_root}
use Rattle.meta_types.specs.declared.rows.ContentRow.{ContentRow}
use Rattle.gc_graph.proofs.RootPlaces.{places_step}
use Rattle.gc_graph.proofs.roots.push_some_marked_content.Goals as goal

pub loop-row-preserved : goal.loop-row-preserved
loop-row-preserved c =
    let inv = c.loop-row.invariant in
    record {
      number = omega (arith, inv.number);
      roots = places_step (λ (row : ContentRow). is_marked_root row.labels) c.args.base c.loop-row.number c.loop-row.row-index c.args.roots.now.items c.loop-row.roots.items
          c.push_place.new.roots.items c.args.rows.now c.row-item.result c.is_root.result c.is_root.ensures inv.number c.loop-row-test.true c.row-item.is inv.roots c.in_ok-push_place.ensures.ok;
    }
