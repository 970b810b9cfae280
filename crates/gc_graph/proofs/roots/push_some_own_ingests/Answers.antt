use Rattle.std.proofs.Common.{arith}
use Rattle.meta_types.specs.Paths.{ingest_holds_itself}
use Rattle.meta_types.specs.declared.rows.IngestRow.{IngestRow}
use Rattle.gc_graph.proofs.RootPlaces.{places_step}
use Rattle.gc_graph.proofs.roots.push_some_own_ingests.Goals as goal

pub loop-row-preserved : goal.loop-row-preserved
loop-row-preserved c =
    let inv = c.loop-row.invariant in
    record {
      number = omega (arith, inv.number);
      roots = places_step (λ (row : IngestRow). ingest_holds_itself c.args.at.0 row) c.args.base c.loop-row.number c.loop-row.row-index c.args.roots.now.items c.loop-row.roots.items
          c.push_place.new.roots.items c.args.rows.now c.row-item.result c.ingest_holds_itself.result c.ingest_holds_itself.ensures inv.number c.loop-row-test.true c.row-item.is inv.roots c.in_ok-push_place.ensures.ok;
    }
