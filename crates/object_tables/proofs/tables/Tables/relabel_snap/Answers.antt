use Rattle.std.proofs.Common.{refl, [], ◌∷◌}
use Rattle.meta_types.specs.Labels.{put_label}
use Rattle.meta_types.specs.Rows.{snap_key}
use Rattle.meta_types.specs.declared.rows.SnapRow.{SnapRow}
use Rattle.object_tables.proofs.OtherTables.{other_snapshots}
use Rattle.object_tables.proofs.NumberedAfter.{relabelled}
use Rattle.object_tables.proofs.RowsAfter.{labelled}
use Rattle.object_tables.proofs.tables.Tables.relabel_snap.Goals as goal

-- labels are no part of a row's place
pub invariant_of-self : goal.invariant_of-self
invariant_of-self c =
    other_snapshots _ c.self.invariant _
    (labelled snap_key (λ (row : SnapRow). row.key.ns) _ _ _ c.self.invariant.snapshots
    (c.args.at.now.ns ∷ c.args.at.now.snapshotter ∷ c.args.at.now.name ∷ [])
    (λ row. record row { labels = put_label c.args.key.now c.args.value.now row.labels })
    (λ row. refl) (λ row. refl) c.relabel.result c.relabel.ensures.ok c.relabel.ensures.err)
    (relabelled _ _ _ c.self.invariant.numbered
    (c.args.at.now.ns ∷ c.args.at.now.snapshotter ∷ c.args.at.now.name ∷ [])
    (λ row. put_label c.args.key.now c.args.value.now row.labels) c.relabel.result
    c.relabel.ensures.ok c.relabel.ensures.err)
