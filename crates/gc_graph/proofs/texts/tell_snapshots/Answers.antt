use Rattle.std.proofs.Common.{Bor, List}
use Rattle.std.specs.Prelude.{All}
use Rattle.meta_types.specs.Text.{IsName}
use Rattle.meta_types.specs.declared.rows.SnapRow.{SnapRow}
use Rattle.gc_graph.proofs.SliceLoops.{told_slice, all_slices}
use Rattle.gc_graph.proofs.texts.tell_snapshots.Goals as goal

pub loop-rows-preserved : goal.loop-rows-preserved
loop-rows-preserved c =
    told_slice (λ (rows : Bor (List SnapRow)). rows.now) c.args.slices.now c.loop-rows.rows-index
    c.rows-item.result c.loop-rows-test.true c.rows-item.is
    (λ (row : SnapRow). IsName row.key.name) c.loop-rows.invariant c.tell_some_snapshots.ensures

pub returns : goal.returns
returns c =
    all_slices (λ (rows : Bor (List SnapRow)). rows.now)
    (All (λ (row : SnapRow). IsName row.key.name)) c.args.slices.now c.loop-rows.rows-index c.loop-rows-test.false c.loop-rows.invariant
