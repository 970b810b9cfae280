use Rattle.std.proofs.Common.{◌≡◌, take}
use Rattle.std.specs.List.{flat_map}
use Rattle.row_tables.specs.Namespaces.{joined}
use Rattle.row_tables.proofs.snapshotters.list.slices_arrived.Given as goal

-- the slices of the namespaces so far
abbrev pub invariant-loop-table : goal.invariant-loop-table
invariant-loop-table g l =
    flat_map (λ rows. rows.now) l.slices.items ≡ joined (take l.table-index l.tables)
