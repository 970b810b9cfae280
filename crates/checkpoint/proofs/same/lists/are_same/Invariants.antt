use Rattle.std.proofs.Common.{◌≡◌, map, take}
use Rattle.checkpoint.proofs.same.lists.are_same.Given as goal

-- the rows so far are the same
abbrev pub invariant-loop-place : goal.invariant-loop-place
invariant-loop-place g l =
    take l.place (map (λ row. row.now) l.rows) ≡ take l.place (map (λ row. row.now) l.others)
