use Rattle.std.proofs.Common.{subst}
use Rattle.std.specs.Prelude.{All}
use Rattle.std.proofs.lemmas.List.{take_all}
use Rattle.meta_types.specs.Text.{IsDigest}
use Rattle.meta_types.specs.declared.rows.ContentRow.{ContentRow}
use Rattle.gc_graph.proofs.NodesAt.{told_next}
use Rattle.gc_graph.proofs.texts.tell_some_content.Goals as goal

pub loop-row-preserved : goal.loop-row-preserved
loop-row-preserved c =
    told_next (λ (row : ContentRow). IsDigest row.digest) c.args.rows.now c.loop-row.row-index c.row-item.result c.loop-row-test.true c.row-item.is c.text_len-length.ensures.valid c.loop-row.invariant

pub returns : goal.returns
returns c = subst (All (λ (row : ContentRow). IsDigest row.digest)) (take_all c.loop-row.row-index c.args.rows.now c.loop-row-test.false) c.loop-row.invariant
