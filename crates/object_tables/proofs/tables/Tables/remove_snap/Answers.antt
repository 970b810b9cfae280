use Rattle.std.proofs.Common.{ap, List, rules, [], ◌∷◌}
use Rattle.meta_types.specs.Rows.{Tables, snap_key}
use Rattle.meta_types.specs.declared.rows.SnapRow.{SnapRow}
use Rattle.object_tables.proofs.OrderStays.{nothing_without}
use Rattle.object_tables.proofs.OtherTables.{other_snapshots}
use Rattle.object_tables.proofs.NumberedAfter.{unstacked}
use Rattle.object_tables.proofs.RowsAfter.{removed}
use Rattle.object_tables.proofs.tables.Tables.remove_snap.Goals as goal

-- what isn't there doesn't go
pub returns-then-not-has_snap-clause-left : goal.returns-then-not-has_snap-clause-left
returns-then-not-has_snap-clause-left c =
    let key = c.args.key.now in
    let tables : Tables = c.args.self.now in
    ap (λ (rows : List SnapRow). record tables { snapshots = rows })
    (nothing_without key.ns key.snapshotter key.name tables.snapshots (search rules))

-- one goes that is no parent
pub invariant_of-self : goal.invariant_of-self
invariant_of-self c =
    other_snapshots _ c.self.invariant _
    (removed snap_key (λ (row : SnapRow). row.key.ns) _ _ _ c.self.invariant.snapshots
    (c.args.key.now.ns ∷ c.args.key.now.snapshotter ∷ c.args.key.now.name ∷ [])
    c.remove.ensures.left)
    (unstacked _ _ _ c.self.invariant.numbered c.args.key.now.ns c.args.key.now.snapshotter
    c.args.key.now.name (search rules)
    c.remove.ensures.left)
