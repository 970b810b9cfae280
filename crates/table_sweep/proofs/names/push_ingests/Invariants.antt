use Rattle.std.proofs.Common.{◌≡◌, ◌++◌, map, take}
use Rattle.table_sweep.specs.Masks.{gone}
use Rattle.table_sweep.proofs.names.push_ingests.Given as goal

-- what the rows so far give stands behind what was there
abbrev pub invariant-loop-i : goal.invariant-loop-i
invariant-loop-i l = l.names.items ≡ l.fn.names.items
    ++ map (λ row. (row.ns, row.name)) (gone (take l.i l.mask) (take l.i l.rows))
