use Rattle.std.proofs.Common.{Bor, List}
use Rattle.std.specs.Prelude.{All}
use Rattle.meta_types.specs.Text.{IsDigest}
use Rattle.meta_types.specs.declared.rows.ContentRow.{ContentRow}
use Rattle.gc_graph.proofs.SliceLoops.{told_slice, all_slices}
use Rattle.gc_graph.proofs.texts.tell_content.Goals as goal

pub loop-rows-preserved : goal.loop-rows-preserved
loop-rows-preserved c =
    told_slice (λ (rows : Bor (List ContentRow)). rows.now) c.args.slices.now c.loop-rows.rows-index
    c.rows-item.result c.loop-rows-test.true c.rows-item.is
    (λ (row : ContentRow). IsDigest row.digest) c.loop-rows.invariant c.tell_some_content.ensures

pub returns : goal.returns
returns c =
    all_slices (λ (rows : Bor (List ContentRow)). rows.now)
    (All (λ (row : ContentRow). IsDigest row.digest)) c.args.slices.now c.loop-rows.rows-index c.loop-rows-test.false c.loop-rows.invariant
