use Rattle.std.proofs.Common.{refl, [], ◌∷◌}
use Rattle.meta_types.specs.Rows.{snap_key}
use Rattle.meta_types.specs.declared.rows.SnapRow.{SnapRow}
use Rattle.object_tables.specs.Edits.{snap_with}
use Rattle.object_tables.proofs.OtherTables.{other_snapshots}
use Rattle.object_tables.proofs.NumberedAfter.{set_there}
use Rattle.object_tables.proofs.RowsAfter.{changed}
use Rattle.object_tables.proofs.tables.Tables.set_snap.Goals as goal

-- labels and data are no part of a row's place
pub invariant_of-self : goal.invariant_of-self
invariant_of-self c =
    other_snapshots _ c.self.invariant _
    (changed snap_key (λ (row : SnapRow). row.key.ns) _ _ _ c.self.invariant.snapshots
    (c.args.at.now.ns ∷ c.args.at.now.snapshotter ∷ c.args.at.now.name ∷ [])
    (snap_with c.args.labels c.args.extra) (λ row. refl) (λ row. refl) c.set.ensures.left)
    (set_there _ _ _ c.self.invariant.numbered
    (c.args.at.now.ns ∷ c.args.at.now.snapshotter ∷ c.args.at.now.name ∷ [])
    (λ row. c.args.labels) (λ row. c.args.extra) c.set.ensures.left)
