use Rattle.std.proofs.Common.{◌≡◌, ◌++◌, take}
use Rattle.std.specs.List.{flat_map}
use Rattle.row_tables.specs.Namespaces.{joined}
use Rattle.row_tables.proofs.namespaces.list.push_slices.Given as goal

-- the slices of the namespaces so far are behind those that were there
abbrev pub invariant-loop-table : goal.invariant-loop-table
invariant-loop-table g l =
    flat_map (λ rows. rows.now) l.slices.items
    ≡ flat_map (λ rows. rows.now) l.fn.slices.items ++ joined (take l.table-index l.tables)
