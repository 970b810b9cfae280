use Rattle.std.proofs.Common.{subst}
use Rattle.std.specs.Prelude.{All}
use Rattle.meta_types.specs.Text.{IsDigest, IsShortName, IsName}
use Rattle.meta_types.specs.declared.rows.ContentRow.{ContentRow}
use Rattle.meta_types.specs.declared.rows.IngestRow.{IngestRow}
use Rattle.meta_types.specs.declared.rows.SnapRow.{SnapRow}
use Rattle.gc_graph.proofs.NodesAt.{are_allowed}
use Rattle.gc_graph.proofs.texts.tell_rows.Goals as goal

-- the slices have all rows
pub returns : goal.returns
returns c =
    are_allowed c.args.rows.now
    (subst (All (λ (row : IngestRow). IsName row.name)) c.as_slices.ensures c.tell_ingests.ensures)
    (subst (All (λ (row : ContentRow). IsDigest row.digest)) c.as_slices-2.ensures
    c.tell_content.ensures)
    (subst (All (λ (row : SnapRow). IsShortName row.key.snapshotter)) c.as_slices-3.ensures
    c.tell_snapshotters.ensures)
    (subst (All (λ (row : SnapRow). IsName row.key.name)) c.as_slices-4.ensures
    c.tell_snapshots.ensures)
