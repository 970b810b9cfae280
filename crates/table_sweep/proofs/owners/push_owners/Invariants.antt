use Rattle.std.proofs.Common.{◌≡◌, ◌++◌, map, take}
use Rattle.object_tables.specs.Calls.{kept}
use Rattle.table_sweep.proofs.owners.push_owners.Given as goal

-- the rows so far stand behind what was there
abbrev pub invariant-loop-i : goal.invariant-loop-i
invariant-loop-i l = map (λ owner. owner.now) l.owners.items
    ≡ map (λ owner. owner.now) l.fn.owners.items
    ++ kept (take l.i l.mask) (take l.i l.rows)
