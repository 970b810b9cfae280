use Rattle.std.proofs.Common.{◌≡◌, ◌++◌, map, take}
use Rattle.object_tables.specs.Calls.{kept}
use Rattle.table_sweep.proofs.owners.push_numbers.Given as goal

-- what the rows so far give stands behind what was there
abbrev pub invariant-loop-i : goal.invariant-loop-i
invariant-loop-i l = l.numbers.items ≡ l.fn.numbers.items
    ++ map (λ row. row.number) (kept (take l.i l.mask) (take l.i l.rows))
