use Rattle.std.proofs.Common.{◌≡◌, ◌++◌, map, take}
use Rattle.table_sweep.specs.Masks.{gone}
use Rattle.table_sweep.proofs.prefix_order.push_all_prefixed.Given as goal

-- the rows so far stand behind what was there
abbrev pub invariant-loop-i : goal.invariant-loop-i
invariant-loop-i g l = map (λ one. one.row.now) l.near.items
    ≡ map (λ one. one.row.now) l.fn.near.items
    ++ gone (take l.i l.mask) (take l.i l.rows)
