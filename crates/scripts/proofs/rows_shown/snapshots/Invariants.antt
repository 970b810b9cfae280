use Rattle.std.proofs.Common.{◌≡◌, map, take}
use Rattle.meta_types.specs.Shown.{snapshot_shown}
use Rattle.scripts.proofs.rows_shown.snapshots.Given as goal

-- the rows so far are copied
abbrev pub invariant-loop-row : goal.invariant-loop-row
invariant-loop-row l = l.rows.items
    ≡ map (λ row. snapshot_shown l.state.state.records.tables.snapshots row.now)
    (take l.row-index l.lent)
