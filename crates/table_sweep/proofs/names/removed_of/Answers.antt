use Rattle.std.proofs.Common.{◌∙◌, map, ap}
use Rattle.std.proofs.Common.{Bor}
use Rattle.meta_types.specs.declared.rows.ContentRow.{ContentRow}
use Rattle.meta_types.specs.declared.rows.ImageRow.{ImageRow}
use Rattle.meta_types.specs.declared.rows.IngestRow.{IngestRow}
use Rattle.meta_types.specs.declared.rows.SnapRow.{SnapRow}
use Rattle.meta_types.specs.Rows.{LeaseRow}
use Rattle.row_tables.specs.Arrived.{sorted}
use Rattle.table_sweep.specs.InKeyOrder.{name_key, snapshot_name_key}
use Rattle.table_sweep.specs.Masks.{gone}
use Rattle.table_sweep.proofs.RemovedNames.{names_of}
use Rattle.table_sweep.proofs.names.removed_of.Goals as goal

pub returns-clause-ok : goal.returns-clause-ok
returns-clause-ok c =
    let rows = c.args.rows.now in
    let masks = c.args.masks.now in
    let content = c.in_ok-content.ensures.ok ∙ ap (sorted name_key)
    (ap (λ m. map (λ (row : ContentRow). (row.ns, row.digest)) (gone m rows.content.now))
    c.deref.ensures.value) in
    let images = c.in_ok-images-2.ensures.ok ∙ ap (sorted name_key)
    (c.in_ok-images.ensures.ok ∙ names_of (λ (row : Bor ImageRow). row.now)
    (λ row. (row.ns, row.name)) c.deref-2.result.now rows.images.now
    ∙ ap (λ m. map (λ (row : ImageRow). (row.ns, row.name))
    (gone m (map (λ (row : Bor ImageRow). row.now) rows.images.now))) c.deref-2.ensures.value) in
    let ingests = c.in_ok-ingests-2.ensures.ok ∙ ap (sorted name_key)
    (c.in_ok-ingests.ensures.ok
    ∙ ap (λ m. map (λ (row : IngestRow). (row.ns, row.name)) (gone m rows.ingests.now))
    c.deref-3.ensures.value) in
    let leases = c.in_ok-leases-2.ensures.ok ∙ ap (sorted name_key)
    (c.in_ok-leases.ensures.ok ∙ names_of (λ (row : Bor LeaseRow). row.now)
    (λ row. (row.ns, row.id)) c.deref-4.result.now rows.leases.now
    ∙ ap (λ m. map (λ (row : LeaseRow). (row.ns, row.id))
    (gone m (map (λ (row : Bor LeaseRow). row.now) rows.leases.now))) c.deref-4.ensures.value) in
    let snapshots = c.in_ok-snapshots.ensures.ok ∙ ap (sorted snapshot_name_key)
    (ap (λ m. map (λ (row : SnapRow). (row.key.ns, row.key.snapshotter, row.key.name))
    (gone m rows.snapshots.now)) c.deref-5.ensures.value) in
    λ i. record {
      content = content i;
      images = images i;
      ingests = ingests i;
      leases = leases i;
      snapshots = snapshots i;
    }
