use Rattle.std.proofs.Common.{◌≡◌, take, map}
use Rattle.row_tables.specs.Namespaces.{joined}
use Rattle.row_tables.proofs.namespaces.list.rows_arrived.Given as goal

-- the rows of the namespaces so far are borrowed
abbrev pub invariant-loop-table : goal.invariant-loop-table
invariant-loop-table g l = map (λ row. row.now) l.list.items ≡ joined (take l.table-index l.tables)
